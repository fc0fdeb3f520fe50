use native.Mathlib.Omega.{arith}
use mathlib.Core.Path.{◌≡◌, refl}
use Prim.Native.Nat.{◌+◌, ◌-◌}
use Rattle.row_format.proofs.Sorts.{fits_limit}
use Rattle.row_build.proofs.write_varchar.Goals as goal

pub write_offset-requires : goal.write_offset-requires
write_offset-requires c =
    let p = c.requires.0 in
    (p.entry_in, fits_limit c.args.layout.is_long (omega (arith, p.small)))

pub returns : goal.returns
returns c =
    let q = c.args.range in
    let e : q.start + q.length - q.start ≡ q.length = omega arith in
    (refl, rw (c.clear_bit.ensures, c.copy.ensures, c.write_offset.ensures, e))
