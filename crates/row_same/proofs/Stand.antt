-- A value that was read from a column has its text in the row, as the comparison of values requires.
use Rattle.std.specs.Prelude.{None, Ok, Option, Some}
use Rattle.value.specs.declared.DataValue.{DataValue}
use Prim.Native.Nat.{ℕ, ◌+◌, ◌-◌, ◌≤◌}
use mathlib.Core.Path.{◌≡◌, refl, sym, ◌∙◌}
use mathlib.Core.Bool.{Bool, true, false, false≢true}
use mathlib.Core.List.{List}
use native.Mathlib.Omega.{arith}
use borrow.Author.Tests.{le-leb}
use lib.Dec.{eqb}
use lib.ListN.{length, take, drop, length-drop}
use lib.Seq.{length-take-le}
use Rattle.laws.proofs.Truths.{by_cond}
use Rattle.laws.specs.Bits.{bit_at}
use Rattle.row_format.specs.Places.{bitmap_start, table_start, offset_width}
use Rattle.row_layout.specs.declared.RowLayout.{RowLayout}
use Rattle.row_layout.specs.declared.VarlenRange.{VarlenRange}
use Rattle.row_layout.specs.declared.VarlenRange.TheVariants as Range
use Rattle.row_layout.specs.Range.{varlen_range}
use Rattle.row_layout.specs.InnerRange.{Inside}
use Rattle.datatype.specs.declared.DataType.{DataType}
use Rattle.datatype.specs.Types.{size_of, is_varlen, length_of}
use Rattle.value.specs.declared.DataValue.TheVariants.{Null}
use Rattle.value_same.specs.InnerFields.{stands_in}
use Rattle.value_same.proofs.Read.{read_stands}
use Rattle.stored_form.specs.Read.{read_slot}
use Rattle.row_column.specs.Column.{slot_value, read_bytes, varlen_value}
use Rattle.row_column.specs.InnerWalk.{walked_place, walked_column, Reachable}
use Rattle.row_reads.proofs.Reading.{range_inside}
use Rattle.row_same.specs.InnerWalk.{Stands}

module _ (t : DataType) (r : List ℕ) where
  null_stands : Stands t r (Ok Null)
  null_stands = rw (le-leb 0 (length r) (omega arith))

  slot_stands : (i : ℕ) (s : Option DataValue) → ((v : _) → s ≡ Some v → stands_in (length_of t) v r ≡ true)
      → Stands t r (slot_value i s)
  slot_stands i (Some v) h = h v refl
  slot_stands i None h = tt

  bytes_stand : (i a e : ℕ) → a ≤ e → e ≤ length r → (is_varlen t ≡ false → e - a ≡ size_of t)
      → Stands t r (read_bytes t i r a e)
  bytes_stand i a e h k l =
      let bs : List ℕ = take (e - a) (drop a r) in
      let n : length bs ≡ e - a = length-take-le (e - a) (drop a r) (rw length-drop (omega arith)) in
      slot_stands i (read_slot t a bs) (λ v q. read_stands a bs r (rw n (omega arith)) t v (λ f. n ∙ l f) q)

  range_stands : is_varlen t ≡ true → (i : ℕ) (x : VarlenRange) → Inside r x → Stands t r (varlen_value t i r x)
  range_stands f i Range.Null h = null_stands
  range_stands f i (Range.Bytes a e) h = bytes_stand i a e h.0 h.1 (λ g. absurd (false≢true (sym g ∙ f)))
  range_stands f i Range.Outside h = tt

pub column_stands : {l : RowLayout} {p : Bool} {b : RowLayout} {t : DataType} {r : List ℕ} → Reachable l p b t r
    → Stands t r (walked_column l p b t r)
column_stands {l} {p} {b} {t} {r} h =
    let i : ℕ = b.num_columns in
    let table : ℕ = table_start l.num_columns in
    let w : ℕ = offset_width l.is_long in
    let v : ℕ = l.num_varlen_cols in
    let k : ℕ = b.num_varlen_cols in
    let at : ℕ = walked_place l p b t in
    by_cond (Stands t r) (eqb (bit_at i (drop bitmap_start r)) 1) (Ok Null) _ (λ z. null_stands t r)
    (λ z. by_cond (Stands t r) (is_varlen t) _ _
    (λ f. range_stands t r f i (varlen_range w table v k r) (range_inside w table v k r))
    (λ f. bytes_stand t r i at (at + size_of t) (omega arith) (h.slot f) (λ g. omega arith)))
