-- A run written by a method of std, as a run of stores.
use Prim.Native.Nat.{ℕ, ◌+◌, ◌-◌, ◌≤◌}
use mathlib.Core.Path.{◌≡◌, sym, ◌∙◌}
use mathlib.Core.List.{List}
use native.Mathlib.Omega.{arith}
use lib.ListN.{length, take, drop, length-drop}
use lib.Seq.{sets, sets-eq, paste, drop-drop, length-take-le}
use borrow.Rule.Slice.PartMut.{put_mid}
use Rattle.laws.proofs.Stores.{sets-splice}

-- what `copy_from_slice` and `fill` wrote to the k places from `at` on
pub part_stored : (s : List ℕ) (at k : ℕ) (now xs : List ℕ) → now ≡ xs → k ≡ length xs → at + length xs ≤ length s → put_mid at k s now ≡ sets s at xs
part_stored s at k now xs e f h = rw (e, f, drop-drop) (sym (sets-splice s at xs h))

-- what `copy_within` wrote
pub moved : (s : List ℕ) (from to n : ℕ) → from + n ≤ length s → to + n ≤ length s → paste s to (drop from s) (from + n - from) ≡ sets s to (take n (drop from s))
moved s from to n f h =
    let e : from + n - from ≡ n = omega arith in
    let k = length-take-le n (drop from s) (rw length-drop (omega arith)) in
    rw e (sym (sets-eq (take n (drop from s)) s to (rw k h) ∙ rw k))
