use Rattle.stored_form.proofs.Within.{slot-within}
use lib.Seq.{length-take-le}
use lib.ListN.{length, take, drop, length-drop}
use native.Mathlib.Omega.{arith}
use mathlib.Core.Path.{◌≡◌, ◌∙◌}
use Prim.Native.Nat.{◌-◌}
use Rattle.row_column.proofs.read_bytes.Goals as goal

pub from_bytes-requires : goal.from_bytes-requires
from_bytes-requires c =
    let a = c.args in
    let p = c.requires in
    let n : length (take (a.end - a.start) (drop a.start a.row.now)) ≡ a.end - a.start = length-take-le (a.end - a.start) (drop a.start a.row.now) (rw length-drop (omega arith)) in
    (p.0, λ f. n ∙ p.1.1.1 f)

pub returns-in-Some : goal.returns-in-Some
returns-in-Some c =
    let a = c.args in
    let n : length (take (a.end - a.start) (drop a.start a.row.now)) ≡ a.end - a.start = length-take-le (a.end - a.start) (drop a.start a.row.now) (rw length-drop (omega arith)) in
    (rw (← c.from_bytes.ensures, c.in-Some.is), rw (← c.from_bytes.ensures, c.in-Some.is) at (slot-within (length a.row.now) a.start (take (a.end - a.start) (drop a.start a.row.now)) (rw n (omega arith)) a.ty))

pub returns-in-None : goal.returns-in-None
returns-in-None c = (rw (← c.from_bytes.ensures, c.in-None.is), tt)
