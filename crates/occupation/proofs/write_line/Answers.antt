-- `write_line` meets its contract.
use mathlib.Core.Path.{refl}
use native.Mathlib.Omega.{arith}
use Rattle.occupation.proofs.Lines.{line-stored}
use Rattle.occupation.proofs.write_line.Goals as goal

pub returns : goal.returns
returns c =
    let a = c.args in
    let p = c.write_text-first.ensures in
    let q = c.write_text-second.ensures in
    let s = c.write_moment-third.ensures in
    let t = c.write_moment-last.ensures in
    (omega (arith, p.0, q.0, s.0, t.0), line-stored a.row.now a.f c.requires.0 a.out.now a.at p.1 p.0 refl q.1 q.0 refl s.1 s.0 refl t.1 t.0 refl)
