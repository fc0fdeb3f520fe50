-- A column that was read: its value fits a record, and its range lies in the row.
use Rattle.error.specs.Result.{Result}
use Rattle.std.specs.Prelude.{Err, None, Ok, Option, Some}
use Prim.Native.Nat.{ℕ, ◌+◌, ◌-◌, ◌≤◌, ◌<◌}
use mathlib.Core.Path.{◌≡◌, refl, sym, ap, ◌∙◌}
use mathlib.Core.Bool.{Bool, true, false, false≢true}
use mathlib.Core.List.{List, map}
use native.Mathlib.Omega.{arith}
use borrow.Author.Tests.{ltb-false}
use lib.Dec.{eqb, ltb}
use lib.ListN.{length, get_or, take, drop, length-take, length-drop, length-map, get_or-eq_default}
use lib.Seq.{length-take-le, get_or-drop, get_or-take}
use Rattle.laws.specs.Bytes.{entry_at}
use Rattle.laws.specs.Bits.{bit_at}
use Rattle.laws.proofs.Bytes.{AllBytes}
use Rattle.laws.proofs.Maps.{at_map}
use Rattle.laws.proofs.Truths.{cases, by_cond}
use Rattle.row_format.specs.declared.Shape.TheVariants.{Fixed, Varlen}
use Rattle.row_format.specs.Places.{varlens, rank_of, bitmap_start, table_start, slot_place, minimum}
use Rattle.row_format.specs.Table.{range_end}
use Rattle.row_format.specs.Row.{slot_size}
use Rattle.row_format.proofs.Places.{slot-inside}
use Rattle.row_layout.specs.declared.VarlenRange.{VarlenRange}
use Rattle.row_layout.specs.declared.VarlenRange.TheVariants as Range
use Rattle.row_layout.specs.Range.{varlen_range}
use Rattle.row_layout.specs.InnerRange.{Inside}
use Rattle.datatype.specs.declared.DataType.{DataType}
use Rattle.datatype.specs.declared.DataType.TheVariants as T
use Rattle.datatype.specs.Types.{size_of, alignment_of, is_varlen, shape_of, precision_of, scale_of}
use Rattle.datatype.specs.Check.{type_at}
use Rattle.datatype.proofs.Again.{all_aligned}
use Rattle.value.specs.declared.DataValue.{DataValue}
use Rattle.value.specs.declared.DataValue.TheVariants.{Null}
use Rattle.value_list.specs.Records.{Sized}
use Rattle.stored_form.specs.Read.{read_slot}
use Rattle.value_same.proofs.Read.{Placed, read-placed, read-sized}
use Rattle.row_column.specs.Column.{slot_value, read_bytes, varlen_value, column_value}

-- a part of bytes is bytes
part_bytes : (r : List ℕ) → AllBytes r → (n at : ℕ) → AllBytes (take n (drop at r))
part_bytes r a n at k =
    cases k n (λ h. rw (get_or-take n (drop at r) k 0 h, get_or-drop) (a (at + k)))
    (λ h.
    let past : length (take n (drop at r)) ≤ k = rw length-take (omega arith) in
    rw (get_or-eq_default (take n (drop at r)) 0 past) (record { fits = omega arith }))

pub record Read (t : DataType) (r : List ℕ) (v : DataValue) : Type 0 where
  pub sized : Sized v
  pub placed : Placed t r v

abbrev IfRead : DataType → List ℕ → Result DataValue → Type 0
IfRead t r (Ok v) = Read t r v
IfRead t r (Err e) = Unit {0}

module _ (t : DataType) (r : List ℕ) (octets : AllBytes r) (short : length r ≤ 1048576) (digits : precision_of t ≤ 38)
    (scale : scale_of t ≤ 38) where
  null-read : IfRead t r (Ok Null)
  null-read =
      record {
        sized = tt;
        placed = record { inside = omega arith; chars = λ k. absurd (omega arith); bits = λ k. absurd (omega arith) };
      }

  slot_read : (i : ℕ) (s : Option DataValue) → ((v : DataValue) → s ≡ Some v → Read t r v) → IfRead t r (slot_value i s)
  slot_read i (Some v) h = h v refl
  slot_read i None h = tt

  bytes_read : (i a e : ℕ) → a ≤ e → e ≤ length r → (is_varlen t ≡ false → e - a ≡ size_of t)
      → IfRead t r (read_bytes t i r a e)
  bytes_read i a e h k l =
      let bs : List ℕ = take (e - a) (drop a r) in
      let n : length bs ≡ e - a = length-take-le (e - a) (drop a r) (rw length-drop (omega arith)) in
      slot_read i (read_slot t a bs)
      (λ v q. record {
        sized = read-sized a bs (part_bytes r octets (e - a) a) t v (λ f. n ∙ l f) (omega (arith, n)) digits
            (omega arith) q;
        placed = read-placed a bs r (omega (arith, n)) t v (λ f. n ∙ l f) q;
      })

  range-read : is_varlen t ≡ true → (i : ℕ) (x : VarlenRange) → Inside r x → IfRead t r (varlen_value t i r x)
  range-read f i Range.Null h = null-read
  range-read f i (Range.Bytes a e) h = bytes_read i a e h.0 h.1 (λ g. absurd (false≢true (sym g ∙ f)))
  range-read f i Range.Outside h = tt

inside : (w table v k : ℕ) (r : List ℕ) → Inside r (varlen_range w table v k r)
inside w table v k r =
    let a : ℕ = entry_at w table k r in
    let e : ℕ = range_end w table v k r in
    by_cond (Inside r) (eqb a 0) Range.Null _ (λ z. tt)
    (λ z. by_cond (Inside r) (ltb e a) Range.Outside _ (λ x. tt)
    (λ x. by_cond (Inside r) (ltb (length r) e) Range.Outside _ (λ y. tt)
    (λ y. (ltb-false e a x, ltb-false (length r) e y))))

module _ (w : ℕ) (p : Bool) (ts : List DataType) (r : List ℕ) (octets : AllBytes r) (short : length r ≤ 1048576)
    (long : minimum w p (map shape_of ts) ≤ length r) (i : ℕ) (h : i < length ts)
    (digits : precision_of (type_at ts i) ≤ 38) (scale : scale_of (type_at ts i) ≤ 38) where
  abbrev t : DataType
  t = type_at ts i

  slot_in : is_varlen t ≡ false → slot_place w p (map shape_of ts) i + size_of t ≤ length r
  slot_in f =
      let s : get_or (map shape_of ts) i Varlen ≡ Fixed (size_of t) (alignment_of t) = at_map shape_of i ts (T.Varchar false 0)
      ∙ rw f in
      let q = rw (ap slot_size s) at (slot-inside p (map shape_of ts) i (all_aligned ts) (rw length-map h)) in
      omega (arith, q, long)

  any-read : IfRead t r (column_value w p ts i r)
  any-read =
      let place : ℕ = slot_place w p (map shape_of ts) i in
      let table : ℕ = table_start (length ts) in
      let v : ℕ = varlens (map shape_of ts) in
      let k : ℕ = rank_of (map shape_of ts) i in
      by_cond (IfRead t r) (eqb (bit_at i (drop bitmap_start r)) 1) (Ok Null) _
      (λ z. null-read t r octets short digits scale)
      (λ z. by_cond (IfRead t r) (is_varlen t) _ _
      (λ f. range-read t r octets short digits scale f i (varlen_range w table v k r) (inside w table v k r))
      (λ f. bytes_read t r octets short digits scale i place (place + size_of t) (omega arith) (slot_in f)
      (λ g. omega arith)))

  pub column-read : {v : DataValue} → column_value w p ts i r ≡ Ok v → Read t r v
  column-read e = rw e at any-read
