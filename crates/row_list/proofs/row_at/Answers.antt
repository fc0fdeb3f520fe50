use Prim.Native.Nat.{◌+◌, ◌-◌}
use mathlib.Core.Path.{◌≡◌}
use native.Mathlib.Omega.{arith}
use lib.ListN.{drop}
use lib.Seq.{drop-drop}
use Rattle.row_list.specs.Rows.{first_size}
use Rattle.row_list.proofs.row_at.Goals as goal

pub returns : goal.returns
returns c =
    let a = c.args in
    let e : c.row_end.result - (a.at + 2) ≡ first_size (drop a.at a.list.now) = omega arith in
    rw (e, drop-drop)
