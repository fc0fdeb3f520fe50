-- Two builds of one value list and text area, whatever sorts they are of, make rows of the same content.
use Rattle.std.specs.Prelude.{Ok}
use Prim.Native.Nat.{ℕ, ◌<◌}
use mathlib.Core.Path.{◌≡◌, refl, sym, ap, ap₂, ◌∙◌, subst}
use mathlib.Core.Bool.{Bool, true, false, cond}
use mathlib.Core.List.{List, []}
use lib.ListN.{length, get_or}
use Rattle.row_format.specs.Places.{offset_width}
use Rattle.laws.proofs.Bytes.{AllBytes}
use Rattle.laws.proofs.Same.{same_self as bytes-self}
use Rattle.datatype.specs.declared.DataType.{DataType}
use Rattle.datatype.specs.Types.{length_of}
use Rattle.datatype.specs.Check.{type_at}
use Rattle.value.specs.declared.DataValue.{DataValue}
use Rattle.value.specs.declared.DataValue.TheVariants as D
use Rattle.value.specs.Ranges.{text_of}
use Rattle.value_list.proofs.Lists.{values-sized}
use Rattle.stored_form.specs.ReadBack.{read_back, has_text}
use Rattle.value_same.specs.Same.{same_content}
use Rattle.value_same.proofs.Equivalence.{same_self}
use Rattle.record_slot.specs.Stored.{is_null}
use Rattle.row_same.specs.Rows.{same_call}
use Rattle.row_same.proofs.Read.{ReadsAs, SameAt, twins_same}
use Rattle.row_build.specs.Built.{Built}
use Rattle.round_trip.specs.ReadBack.{start_in, value_back, row, given_value, given_text, given_back}
use Rattle.round_trip.specs.Sorts.{Twins}
use Rattle.round_trip.proofs.Sorts.{same-columns}
use Rattle.round_trip.proofs.ReadBack.{taken, read-built}
use Rattle.round_trip.proofs.BuiltReads.{all_back, all-many, all_at, built-reads}
use Rattle.round_trip.proofs.Layouts.{same-values}

-- a value that is read back at two places, with texts y and z of the same bytes if it has any
module _ (t : DataType) (n s s' : ℕ) (x y z : List ℕ) where
  abbrev back : ℕ → DataValue → DataValue
  back at v = cond (is_null v) D.Null (read_back t at v x)

  same_back : (v : DataValue) → (has_text v ≡ true → y ≡ z) → same_content n (back s v) y (back s' v) z ≡ true
  same_back D.Null e = refl
  same_back (D.SmallInt i) e = same_self n (D.SmallInt i) []
  same_back (D.Int i) e = same_self n (D.Int i) []
  same_back (D.BigInt i) e = same_self n (D.BigInt i) []
  same_back (D.Real b) e = same_self n (D.Real b) []
  same_back (D.DoublePrecision b) e = same_self n (D.DoublePrecision b) []
  same_back (D.Numeric m) e = same_self n (D.Numeric m) []
  same_back (D.Bool b) e = same_self n (D.Bool b) []
  same_back (D.Char r) e = rw (e refl) (bytes-self z)
  same_back (D.Varchar r) e = rw (e refl) (bytes-self z)
  same_back (D.Date i) e = same_self n (D.Date i) []
  same_back (D.Time i) e = same_self n (D.Time i) []
  same_back (D.Bit r) e = rw (e refl) (same_self n (D.Bit r) z)
  same_back (D.Timestamp i) e = same_self n (D.Timestamp i) []

module _ {sort sort' : Bool} {schema list area out : List ℕ} {n : ℕ} {after : List ℕ}
    (b : Built sort schema list area out n after)
    {out' : List ℕ} {n' : ℕ} {after' : List ℕ} (b' : Built sort' schema list area out' n' after')
    (bytes : AllBytes list) where
  columns_are : b'.columns ≡ b.columns
  columns_are = same-columns sort' sort schema b'.schema-good b.schema-good

  given_are : b'.given ≡ b.given
  given_are = same-values b' b

  -- what column i of the second row gives back, by the columns and values of the first build
  abbrev twin : ℕ → DataValue
  twin i = value_back (offset_width sort') b.columns i (given_value b i) (given_text b i) (row b')

  twin_at : (i : ℕ) → i < length b.columns → get_or (all_back b') i D.Null ≡ twin i
  twin_at i h =
      all_at b' i (rw columns_are h)
      ∙ ap₂ (λ (ts : List DataType) (vs : List DataValue). value_back (offset_width sort') ts i (get_or vs i D.Null) (text_of area (get_or vs i D.Null)) (row b'))
      columns_are given_are

  same_text : (i : ℕ) → i < length b.columns → has_text (given_value b i) ≡ true
      → text_of (row b) (given_back b i) ≡ text_of (row b') (twin i)
  same_text i h t =
      (read-built b bytes).text i h t ∙ sym (let text = rw (columns_are, given_are) at ((read-built b' bytes).text i) in text h t)

  column-same : (i : ℕ) → i < length b.columns → SameAt (row b) (row b') b.columns (all_back b) (all_back b') i
  column-same i h =
      rw (all_at b i h, twin_at i h)
      (same_back (type_at b.columns i) (length_of (type_at b.columns i))
      (start_in (offset_width sort) b.columns i (row b)) (start_in (offset_width sort') b.columns i (row b'))
      (given_text b i) (text_of (row b) (given_back b i)) (text_of (row b') (twin i)) (given_value b i) (same_text i h))

  pub same_rows : same_call schema (row b) (row b') ≡ Ok true
  same_rows =
      twins_same (built-reads b (values-sized list bytes (taken b).all))
      (subst (λ (ts : List DataType). ReadsAs schema (row b') ts (all_back b')) columns_are
      (built-reads b' (values-sized list bytes (taken b').all)))
      (all-many b) (all-many b' ∙ ap length columns_are) column-same

pub twins : {schema list area out : List ℕ} {n : ℕ} {after : List ℕ} (b : Built false schema list area out n after)
    {out' : List ℕ} {n' : ℕ} {after' : List ℕ} (b' : Built true schema list area out' n' after') → Twins b b'
twins b b' bytes = record { short_first = same_rows b b' bytes; long_first = same_rows b' b bytes }
