-- The walk over the columns of a row tells what the definition of soundness tells by their numbers.
use Rattle.error.specs.Result.{Result}
use Rattle.std.specs.Prelude.{None, Some}
use Rattle.value.specs.declared.DataValue.{DataValue}
use Prim.Native.Nat.{ℕ, zero, suc, ◌+◌, ◌<◌}
use mathlib.Core.Path.{◌≡◌, sym, ap, ap₂, ◌∙◌}
use mathlib.Core.Bool.{Bool, false, cond}
use mathlib.Core.List.{List, map}
use native.Mathlib.Numerals.{add-one}
use native.Mathlib.Omega.{arith}
use lib.Dec.{eqb}
use lib.ListN.{length, drop, drop_of_length-le, length-map}
use lib.Seq.{drop-cons}
use Rattle.laws.specs.Bits.{bit_at}
use Rattle.laws.specs.Bytes.{entry_at}
use Rattle.laws.proofs.Maps.{take-map}
use Rattle.row_format.specs.Places.{varlens, rank_of, bitmap_start, table_start, minimum, offset_width}
use Rattle.row_layout.specs.declared.RowLayout.{RowLayout}
use Rattle.row_layout.specs.InnerLayout.{no_columns}
use Rattle.datatype.specs.declared.DataType.{DataType}
use Rattle.datatype.specs.declared.DataType.TheVariants.{Varchar}
use Rattle.datatype.specs.Types.{shape_of}
use Rattle.datatype.specs.Check.{type_at, layout_for}
use Rattle.datatype.proofs.Again.{before-next}
use Rattle.datatype.specs.InnerCheck.{layout_before}
use Rattle.row_column.specs.InnerWalk.{walked_column}
use Rattle.row_column.proofs.Walk.{minimum_walked, column_walked}
use Rattle.row_column.proofs.Reach.{columns-before}
use Rattle.row_sound.specs.Sound.{sound_with, sound_column, sound_from, first_payload, sound_in}
use Rattle.row_sound.specs.InnerWalk.{walked_sound, walked_columns, walked_first, walked_soundness}

module _ (k p : Bool) (ts : List DataType) (r : List ℕ) where
  abbrev l : RowLayout
  l = layout_for k ts

  sound_walked : (i : ℕ) → i < length ts → sound_column (offset_width k) p ts i r
      ≡ walked_sound l p (layout_before ts i) (type_at ts i) r
  unfolding sound_column walked_sound
  sound_walked i h =
      let t : DataType = type_at ts i in
      let b : RowLayout = layout_before ts i in
      let tell : Result DataValue → ℕ → ℕ → ℕ → Bool = λ c n rank j. sound_with t c (entry_at (offset_width k) (table_start n) rank r) (eqb
      (bit_at j (drop bitmap_start r)) 1) in
      ap (λ (c : Result DataValue). tell c (length ts) (rank_of (map shape_of ts) i) i) (column_walked k p ts i r h)
      ∙ ap₂ (λ (n rank : ℕ). tell (walked_column l p b t r) n rank i) (sym (length-map ts shape_of))
      (ap varlens (take-map shape_of i ts))
      ∙ ap (λ (j : ℕ). tell (walked_column l p b t r) l.num_columns b.num_varlen_cols j)
      (sym (columns-before ts i (omega arith)))

  walked_next : (i : ℕ) → i < length ts → walked_columns l p r (layout_before ts i) (drop i ts)
      ≡ cond (walked_sound l p (layout_before ts i) (type_at ts i) r)
      (walked_columns l p r (layout_before ts (suc i)) (drop (suc i) ts)) false
  walked_next i h = rw (drop-cons ts i (Varchar false 0) h, rw (add-one i) at (before-next ts i h))

  from_walked : (n i : ℕ) → i + n ≡ length ts
      → sound_from (offset_width k) p ts r i n ≡ walked_columns l p r (layout_before ts i) (drop i ts)
  from_walked zero i e = rw (drop_of_length-le ts {i = i} (omega arith))
  from_walked (suc n) i e =
      let h : i < length ts = omega arith in
      ap₂ (λ (x y : Bool). cond x y false) (sound_walked i h) (from_walked n (suc i) (omega arith))
      ∙ sym (walked_next i h)

  first_walked : first_payload (offset_width k) (table_start (length ts)) (varlens (map shape_of ts)) r ≡ walked_first l r
  first_walked = ap (λ (n : ℕ). first_payload (offset_width k) (table_start n) (varlens (map shape_of ts)) r)
      (sym (length-map ts shape_of))

  told : sound_in (offset_width k) p ts r ≡ walked_soundness l p ts r
  told =
      ap (λ (x : Bool). cond (cond x
      (eqb (first_payload (offset_width k) (table_start (length ts)) (varlens (map shape_of ts)) r)
      (minimum (offset_width k) p (map shape_of ts))) false) (Some p) None)
      (from_walked (length ts) 0 (omega arith))
      ∙ ap₂ (λ (n m : ℕ). cond (cond (walked_columns l p r no_columns ts) (eqb n m) false)
      (Some p) None) first_walked (minimum_walked k ts p)

-- where the layout of the columns is known as l
pub soundness_walked : (p : Bool) (ts : List DataType) (r : List ℕ) {l : RowLayout} → layout_for l.is_long ts ≡ l
    → walked_soundness l p ts r ≡ sound_in (offset_width l.is_long) p ts r
soundness_walked p ts r {l} e = ap (λ (m : RowLayout). walked_soundness m p ts r) (sym e) ∙ sym (told l.is_long p ts r)
