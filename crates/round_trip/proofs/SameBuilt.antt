-- A row that reads has the same content as what is built of its own values, for whatever sort.
use Rattle.std.specs.Prelude.{Ok}
use Prim.Native.Nat.{ℕ, suc, ◌<◌}
use mathlib.Core.Path.{◌≡◌, sym, ap, ◌∙◌}
use mathlib.Core.Bool.{Bool, true}
use mathlib.Core.List.{List, [], ◌∷◌, map}
use native.Mathlib.Omega.{arith}
use lib.ListN.{length, get_or}
use Rattle.laws.proofs.Bytes.{AllBytes}
use Rattle.row_format.specs.Places.{varlens, minimum, offset_width}
use Rattle.row_format.specs.Table.{Cell}
use Rattle.row_format.specs.Header.{is_long}
use Rattle.row_format.proofs.Sorts.{limit_le}
use Rattle.datatype.specs.Types.{shape_of, length_of}
use Rattle.datatype.specs.Check.{type_at}
use Rattle.value.specs.declared.DataValue.{DataValue}
use Rattle.value.specs.declared.DataValue.TheVariants.{Null}
use Rattle.value.specs.Ranges.{text_of}
use Rattle.value_list.specs.Records.{Sized}
use Rattle.value_list.specs.Lists.{values_of}
use Rattle.value_list.specs.InnerRecords.{Narrow}
use Rattle.value_list.specs.InnerLists.{AllSized, AllNarrow}
use Rattle.value_list.proofs.Records.{inside_narrow}
use Rattle.value_list.proofs.Lists.{values-read}
use Rattle.stored_form.proofs.Lengths.{accepted-suits}
use Rattle.value_same.specs.Same.{same_content}
use Rattle.value_same.proofs.ReadBack.{same-read-back, placed_chars}
use Rattle.row_column.proofs.Framing.{Fine, fine}
use Rattle.row_same.specs.Rows.{same_call}
use Rattle.row_same.proofs.Read.{ReadsAs, twins_same}
use Rattle.row_build.specs.InnerSteps.{values_given}
use Rattle.row_build.specs.Built.{Built}
use Rattle.record_slot.proofs.Tests.{CellIs, null, stored}
use Rattle.row_build.proofs.Cells.{cell_at_lem}
use Rattle.row_build.proofs.Built.{built}
use Rattle.round_trip.specs.ReadBack.{row, given_value, given_text, given_back, ReadsBack}
use Rattle.round_trip.specs.Same.{FullRead, list_read, SameAsBuilt}
use Rattle.round_trip.proofs.Types.{column-digits, column-scale}
use Rattle.round_trip.proofs.Columns.{Read, column-read}
use Rattle.round_trip.proofs.Sorts.{same-columns}
use Rattle.round_trip.proofs.ReadBack.{taken, sized-back}
use Rattle.round_trip.proofs.BuiltReads.{all-many, all_at, built-reads}
use Rattle.round_trip.proofs.BuiltText.{null_is}
use Rattle.round_trip.proofs.ReadAll.{All, all_of, reads_as}

all-sized : (vs : List DataValue) → ((k : ℕ) → k < length vs → Sized (get_or vs k Null)) → AllSized vs
all-sized [] h = tt
all-sized (v ∷ vs) h = (h 0 (omega arith), all-sized vs (λ k l. h (suc k) (omega arith)))

all_narrow : (t : Bool) (vs : List DataValue) → ((k : ℕ) → k < length vs → Narrow t (get_or vs k Null)) → AllNarrow t vs
all_narrow t [] h = tt
all_narrow t (v ∷ vs) h = (h 0 (omega arith), all_narrow t vs (λ k l. h (suc k) (omega arith)))

-- ---- a build whose text area is a row r that its values were read of

module _ {sort : Bool} {schema list r out : List ℕ} {n : ℕ} {after : List ℕ}
    (b : Built sort schema list r out n after)
    (reads : (k : ℕ) → k < length b.columns → Read (type_at b.columns k) r (given_value b k)) where
  sized : AllSized b.given
  sized = all-sized b.given (λ k h. (reads k (rw (← (taken b).count) h)).sized)

  read_back_lem : ReadsBack b
  read_back_lem = sized-back b sized

  column-same : (i : ℕ) → i < length b.columns
      → same_content (length_of (type_at b.columns i)) (given_value b i) (given_text b i) (given_back b i)
      (text_of (row b) (given_back b i)) ≡ true
  column-same i h = of_cell _ (cell_at_lem r b.columns b.given b.cells-good (taken b).count i h)
    where
      of_cell : (c : Cell) → CellIs (type_at b.columns i) (given_value b i) r c
          → same_content (length_of (type_at b.columns i)) (given_value b i) (given_text b i) (given_back b i)
          (text_of (row b) (given_back b i)) ≡ true
      of_cell c (null z) = rw (null_is (given_value b i) z)
      of_cell c (stored z m a) =
          let text = rw z at (read_back_lem.text i h) in
          rw z
          (same-read-back (type_at b.columns i) _ (given_text b i) _ (given_value b i)
          (accepted-suits (type_at b.columns i) (given_value b i) r a)
          (placed_chars (reads i h).placed) text)

  same_row : ReadsAs schema r b.columns b.given → same_call schema r (row b) ≡ Ok true
  same_row e =
      twins_same e (built-reads b sized) (taken b).count (all-many b) (λ i h. rw (all_at b i h) (column-same i h))

-- ---- the values that a read of a row r gave

module _ {schema r : List ℕ} (q : FullRead schema r) (octets : AllBytes r) where
  abbrev x : All q
  x = all_of q

  abbrev least : Bool → ℕ
  least p = minimum (offset_width (is_long r)) p (map shape_of x.columns)

  row_fine : Fine (is_long r) least r x.packed
  row_fine = fine (is_long r) (length x.columns) (varlens (map shape_of x.columns)) least r x.frame

  value_read : (k : ℕ) → k < length x.columns → Read (type_at x.columns k) r (get_or x.read k Null)
  value_read k h =
      column-read (offset_width (is_long r)) x.packed x.columns r octets
      (omega (arith, row_fine.short, limit_le (is_long r))) row_fine.long k h
      (column-digits (is_long r) schema x.schema-good k h) (column-scale (is_long r) schema x.schema-good k h)
      (x.each k h)

  list-values : values_of (list_read q) ≡ Ok x.read
  list-values =
      rw x.list-is
      (values-read (is_long r) x.read (all-sized x.read (λ k h. (value_read k (rw (← x.count) h)).sized))
      (all_narrow (is_long r) x.read
      (λ k h. inside_narrow (is_long r) (get_or x.read k Null)
      (omega (arith, row_fine.short, (value_read k (rw (← x.count) h)).placed.inside)))))

  module _ {sort : Bool} {out : List ℕ} {n : ℕ} {after : List ℕ} (b : Built sort schema (list_read q) r out n after) where
    columns_are : x.columns ≡ b.columns
    columns_are = same-columns (is_long r) sort schema x.schema-good b.schema-good

    given_are : x.read ≡ b.given
    given_are = ap values_given (sym list-values ∙ (taken b).all)

    given-read : (k : ℕ) → k < length b.columns → Read (type_at b.columns k) r (given_value b k)
    given-read = rw (← columns_are, ← given_are) value_read

    read_as_lem : ReadsAs schema r b.columns b.given
    read_as_lem = rw (← columns_are, ← given_are) (reads_as q)

pub same_as_built : {schema r : List ℕ} (q : FullRead schema r) → SameAsBuilt q
same_as_built {schema} {r} q octets sort out counts n after numbers o =
    let b = (built sort schema (list_read q) r out counts n after numbers o).built in
    same_row b (given-read q octets b) (read_as_lem q octets b)
