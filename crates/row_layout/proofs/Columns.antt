-- The layout of the first columns of a schema, as a walk over its columns holds it.
use Prim.Native.Nat.{ℕ, suc, ◌+◌, ◌<◌}
use mathlib.Core.Path.{◌≡◌, refl}
use mathlib.Core.Bool.{Bool, true, false}
use mathlib.Core.List.{List}
use native.Mathlib.Omega.{arith}
use lib.ListN.{length, get_or, take}
use lib.Seq.{length-take-le}
use Rattle.row_format.specs.declared.Shape.{Shape}
use Rattle.row_format.specs.declared.Shape.TheVariants.{Fixed, Varlen}
use Rattle.row_format.specs.Places.{rank_after, end_after, minimum, offset_width, slot_start, start_at}
use Rattle.row_format.proofs.Places.{through-next}
use Rattle.row_layout.specs.Layout.{layout_of, size_in}
use Rattle.row_layout.specs.InnerLayout.{minimum_of, with_column}

-- past column i
pub layout-next : (k : Bool) (ss : List Shape) (i : ℕ) → i < length ss → layout_of k (take (suc i) ss) ≡ with_column (layout_of k (take i ss)) (get_or ss i Varlen)
layout-next k ss i h =
    let n : length (take (suc i) ss) ≡ length (take i ss) + 1 = rw (length-take-le (suc i) ss h, length-take-le i ss (omega arith)) (omega arith) in
    rw (n, through-next rank_after ss i 0 h, through-next (end_after true) ss i 0 h, through-next (end_after false) ss i 0 h)

-- where column i starts
pub layout-slot : (k : Bool) (ss : List Shape) (i : ℕ) (p : Bool) (z a : ℕ) → get_or ss i Varlen ≡ Fixed z a → start_at p a (size_in (layout_of k (take i ss)) p) ≡ slot_start p ss i
layout-slot k ss i true z a e = rw e
layout-slot k ss i false z a e = rw e

pub layout-minimum : (k : Bool) (ss : List Shape) (p : Bool) → minimum_of (layout_of k ss) p ≡ minimum (offset_width k) p ss
layout-minimum k ss true = refl
layout-minimum k ss false = refl
