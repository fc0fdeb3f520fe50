-- The bit of a column, in the part of the row that starts with the bitmap.

use Rattle.error.specs.Result.{Result}
use Prim.Native.Nat.{ℕ, ◌+◌, ◌-◌, ◌/◌, ◌<◌}
use mathlib.Core.Path.{◌≡◌, ap}
use mathlib.Core.List.{List, [], ◌++◌, append-nil}
use mathlib.Core.Option.{some}
use native.Mathlib.Omega.{arith}
use borrow.Author.Tests.{lt-leb}
use lib.ListN.{length, take, drop, length-drop}
use Rattle.laws.proofs.Parts.{part-all, part_none}
use Rattle.row_format.specs.Places.{bitmap_start}
use Rattle.row_format.specs.Edit.{bit_edit}
use Rattle.null_bitmap.specs.InnerBitmap.{flag_put}

pub bit_cleared : (out : List ℕ) (n i : ℕ) (r : Result Unit) (x : List ℕ) {b : ℕ} → b ≡ bitmap_start → i < n
    → bitmap_start + i / 8 < length out → (r, x) ≡ flag_put 0 n i (take (length out - b) (drop b out))
    → take b out ++ (x ++ drop (length out - b) (drop b out)) ≡ bit_edit i (some []) out
bit_cleared out n i r x b-is h k f =
    let e = rw b-is at f in
    let long : i / 8 < length (drop 4 out) = rw length-drop (omega arith) in
    let p = rw (part-all out 4, lt-leb n i h, lt-leb (length (drop 4 out)) (i / 8) long) at e in
    rw (b-is, part_none out 4, append-nil, ap (λ (z : Result Unit × List ℕ). z.1) p)
