-- The walk over all columns gives what the definition gives by their numbers.
use Rattle.error.specs.Result.{Result}
use Rattle.value.specs.declared.DataValue.{DataValue}
use Prim.Native.Nat.{ℕ, zero, suc, ◌+◌, ◌<◌}
use mathlib.Core.Path.{◌≡◌, sym, ap, ap₂, ◌∙◌}
use mathlib.Core.Bool.{Bool, false}
use mathlib.Core.List.{List}
use native.Mathlib.Numerals.{add-one}
use native.Mathlib.Omega.{arith}
use lib.ListN.{length, drop, drop_of_length-le}
use lib.Seq.{drop-cons}
use Rattle.row_format.specs.Places.{offset_width}
use Rattle.row_layout.specs.declared.RowLayout.{RowLayout}
use Rattle.row_layout.specs.InnerLayout.{no_columns}
use Rattle.datatype.specs.declared.DataType.{DataType}
use Rattle.datatype.specs.declared.DataType.TheVariants.{Varchar}
use Rattle.datatype.specs.Check.{type_at, layout_for}
use Rattle.datatype.proofs.Again.{before-next}
use Rattle.datatype.specs.InnerCheck.{layout_before}
use Rattle.row_column.specs.InnerWalk.{walked_column}
use Rattle.row_column.proofs.Walk.{column_walked}
use Rattle.row_column.proofs.Reach.{columns-before}
use Rattle.row_decode.specs.Read.{wanted_value, on_column, read_from}
use Rattle.row_decode.specs.InnerWalk.{walked_read}

module _ (k p : Bool) (ts : List DataType) (wanted : ℕ → Bool) (r : List ℕ) where
  abbrev l : RowLayout
  l = layout_for k ts

  walked_next : (i : ℕ) → i < length ts → walked_read l p wanted r (layout_before ts i) (drop i ts)
      ≡ on_column (wanted_value (wanted i) (walked_column l p (layout_before ts i) (type_at ts i) r))
      (walked_read l p wanted r (layout_before ts (suc i)) (drop (suc i) ts))
  walked_next i h =
      let b : RowLayout = layout_before ts i in
      let t : DataType = type_at ts i in
      let here : Bool → (Result DataValue) = λ x. wanted_value x (walked_column l p b t r) in
      ap (walked_read l p wanted r b) (drop-cons ts i (Varchar false 0) h)
      ∙ ap₂ (λ (n : ℕ) (c : RowLayout). on_column (here (wanted n)) (walked_read l p wanted r c (drop (suc i) ts)))
      (columns-before ts i (omega arith)) (sym (rw (add-one i) at (before-next ts i h)))

  from_walked : (n i : ℕ) → i + n ≡ length ts
      → read_from (offset_width k) p ts wanted r i n ≡ walked_read l p wanted r (layout_before ts i) (drop i ts)
  from_walked zero i e = rw (drop_of_length-le ts {i = i} (omega arith))
  from_walked (suc n) i e =
      let h : i < length ts = omega arith in
      ap₂ on_column (ap (wanted_value (wanted i)) (column_walked k p ts i r h)) (from_walked n (suc i) (omega arith))
      ∙ sym (walked_next i h)

  -- where the layout of the columns is known as m
  pub read_walked : {m : RowLayout} → layout_for k ts ≡ m
      → walked_read m p wanted r no_columns ts ≡ read_from (offset_width k) p ts wanted r 0 (length ts)
  read_walked e =
      ap (λ (c : RowLayout). walked_read c p wanted r no_columns ts) (sym e)
      ∙ sym (from_walked (length ts) 0 (omega arith))
