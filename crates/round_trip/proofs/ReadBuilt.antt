-- A row that was built is read back.
use Rattle.std.specs.Prelude.{Ok}
use Prim.Native.Nat.{ℕ, zero, suc, ◌+◌, ◌-◌, ◌^◌, ◌≤◌, ◌<◌}
use mathlib.Core.Path.{◌≡◌, refl, sym, ap, ◌∙◌}
use mathlib.Core.Bool.{Bool, true, false, cond, false≢true}
use mathlib.Core.List.{List, [], ◌∷◌, ◌++◌, append_assoc, map}
use mathlib.Core.Option.{none, some}
use native.Mathlib.Omega.{arith}
use borrow.Author.Tests.{le-ltb, eq-eqb, ne_eqb, eqb-true}
use lib.Dec.{eqb}
use lib.ListN.{length, get_or, take, drop, length-append, length-drop, length-map, take-append-drop, drop_of_length-le}
use lib.Seq.{length-take-le, drop_at, drop-cons, take-append-le, drop-append-le}
use Rattle.row_format.proofs.Sorts.{marks_small, marks_count, marks_packed, fits_limit}
use Rattle.error.specs.Result.{before, Result}
use Rattle.laws.specs.Bytes.{entry_at, from_le}
use Rattle.laws.specs.Bits.{bit_at}
use Rattle.laws.specs.InnerForall.{Forall₂}
use Rattle.laws.proofs.Forall.{forall_length}
use Rattle.laws.proofs.Maps.{at_map}
use Rattle.row_format.specs.declared.Shape.{Shape}
use Rattle.row_format.specs.declared.Shape.TheVariants.{Fixed, Varlen}
use Rattle.row_format.specs.Places.{varlens, rank_of, bitmap_start, table_start, slot_place, minimum, offset_width, row_limit}
use Rattle.row_format.specs.Table.{Cell, bytes, payloads, lay, range_end}
use Rattle.row_format.specs.Row.{packed_marks, header, null_bit, varlen_cells, row_with, built_row, slot_size}
use Rattle.row_format.proofs.Places.{packed-inside, varlens-le}
use Rattle.row_format.proofs.Row.{length-header, header-columns, header-varlens, length-row, slots_fit, bit-row, entry_row, end_row, range-row, of_rank}
use Rattle.row_format.specs.Written.{WrittenRow}
use Rattle.row_format.proofs.Written.{written_row}
use Rattle.row_format.proofs.Cells.{column_bytes, cell_at, cell_built}
use Rattle.row_format.specs.InnerTable.{range_bytes}
use Rattle.row_format.specs.InnerRow.{FitsCell}
use Rattle.row_layout.specs.declared.VarlenRange.TheVariants.{Bytes}
use Rattle.row_layout.specs.Range.{varlen_range}
use Rattle.datatype.specs.declared.DataType.{DataType}
use Rattle.datatype.specs.declared.DataType.TheVariants as T
use Rattle.datatype.specs.Types.{size_of, alignment_of, is_varlen, shape_of}
use Rattle.datatype.specs.Check.{type_at}
use Rattle.value.specs.declared.DataValue.{DataValue}
use Rattle.value.specs.declared.DataValue.TheVariants.{Null}
use Rattle.value.specs.Kinds.{kind_of, matches}
use Rattle.value.specs.Ranges.{text_of}
use Rattle.value_list.specs.Records.{Sized}
use Rattle.value_list.specs.InnerLists.{AllSized}
use Rattle.stored_form.specs.Write.{suits, accepted, stored_form}
use Rattle.stored_form.specs.Read.{read_slot}
use Rattle.stored_form.specs.ReadBack.{read_back, has_text}
use Rattle.stored_form.proofs.Lengths.{accepted-suits}
use Rattle.stored_form.proofs.ReadBack.{read-stored, text-stored}
use Rattle.row_format.specs.Header.{column_count, varlen_field}
use Rattle.row_column.specs.Frame.{frame_of}
use Rattle.row_column.specs.Column.{slot_value, read_bytes, varlen_value, column_value}
use Rattle.row_decode.specs.Read.{wanted_value, on_column, read_from}
use Rattle.record_slot.specs.Stored.{is_null}
use Rattle.row_build.specs.Cells.{cells_from}
use Rattle.round_trip.specs.ReadBack.{value_back, values_back}
use Rattle.record_slot.proofs.Tests.{CellIs, null, stored, length-slot}
use Rattle.row_build.proofs.Walk.{value_at}
use Rattle.row_build.proofs.Cells.{cell_at_lem, cells_fit}

-- ---- general

any_default : (l : List Cell) (i : ℕ) (c d : Cell) → i < length l → get_or l i c ≡ get_or l i d
any_default [] i c d h = absurd (omega arith)
any_default (x ∷ l) zero c d h = refl
any_default (x ∷ l) (suc i) c d h = any_default l i c d (omega arith)

payload-inside : (ps : List Cell) (k : ℕ)
    → length (payloads (take k ps)) + length (bytes (get_or ps k none)) ≤ length (payloads ps)
payload-inside [] zero = omega arith
payload-inside [] (suc k) = omega arith
payload-inside (c ∷ ps) zero = rw (length-append (bytes c) (payloads ps)) (omega arith)
payload-inside (c ∷ ps) (suc k) = rw
    (length-append (bytes c) (payloads ps), length-append (bytes c) (payloads (take k ps)))
    (omega (arith, payload-inside ps k))

all-sized_at : (vs : List DataValue) → AllSized vs → (i : ℕ) → i < length vs → Sized (value_at vs i)
all-sized_at [] a i h = absurd (omega arith)
all-sized_at (v ∷ vs) a zero h = a.0
all-sized_at (v ∷ vs) a (suc i) h = all-sized_at vs a.1 i (omega arith)

-- x stands at a place of r
record Stands (r : List ℕ) (at : ℕ) (x : List ℕ) : Type 0 where
  inside : at ≤ length r
  part : take (length x) (drop at r) ≡ x

split_there : (r : List ℕ) (at : ℕ) (x : List ℕ) → Stands r at x → r ≡ take at r ++ (x ++ drop (length x) (drop at r))
split_there r at x p =
    sym (take-append-drop at r)
    ∙ ap (λ (z : List ℕ). take at r ++ z)
    (sym (take-append-drop (length x) (drop at r)) ∙ ap (λ (z : List ℕ). z ++ drop (length x) (drop at r)) p.part)

-- the fields of a header in front of other bytes
first_field : (h x : List ℕ) → length h ≡ 4 → take 2 (h ++ x) ≡ take 2 h
first_field h x n = take-append-le 2 h x (omega arith)

second_field : (h x : List ℕ) → length h ≡ 4 → take 2 (drop 2 (h ++ x)) ≡ take 2 (drop 2 h)
second_field h x n = ap (take 2) (drop-append-le 2 h x (omega arith))
    ∙ take-append-le 2 (drop 2 h) x (rw length-drop (omega arith))

-- ---- the row

module _ (sort : Bool) (ts : List DataType) (vs : List DataValue) (area : List ℕ) {cs : List Cell}
    (e : cells_from 0 ts vs area ≡ Ok cs) (n : length vs ≡ length ts) (few : length ts ≤ 256) where
  abbrev ss : List Shape
  ss = map shape_of ts

  abbrev r : List ℕ
  r = built_row (offset_width sort) (packed_marks sort) ss cs

  fit : Forall₂ FitsCell ss cs
  fit = cells_fit area 0 ts vs e n

  abbrev hd : List ℕ
  hd = header (packed_marks sort) ss

  four : length hd ≡ 4
  four = length-header (packed_marks sort) ss

  columns_are : length ss ≡ length ts
  columns_are = length-map ts shape_of

  pub row-length : length r ≡ minimum (offset_width sort) true ss + length (payloads (varlen_cells ss cs))
  row-length = length-row (offset_width sort) hd four fit (slots_fit fit)

  -- ---- its header

  head_row : r ≡ hd ++ drop 4 r
  unfolding row_with lay
  head_row = rw (append_assoc hd, drop_at hd _ 4 four)

  pub count-is : column_count r ≡ length ts
  count-is =
      ap from_le (ap (take 2) head_row ∙ first_field hd (drop 4 r) four)
      ∙ header-columns (packed_marks sort) ss (rw length-map (omega arith)) ∙ columns_are

  abbrev v : ℕ
  v = varlens ss

  v_small : v ≤ 256
  v_small = omega (arith, varlens-le ss, columns_are)

  field_is : varlen_field r ≡ v + packed_marks sort
  field_is =
      ap from_le (ap (λ (z : List ℕ). take 2 (drop 2 z)) head_row ∙ second_field hd (drop 4 r) four)
      ∙ header-varlens (packed_marks sort) ss (marks_small sort (omega (arith, v_small)))

  pub frame-built : length r ≤ row_limit sort → frame_of sort ts r ≡ Ok true
  frame-built short =
      let long : minimum (offset_width sort) true ss ≤ length r = omega (arith, row-length) in
      rw (
        field_is,
        marks_packed sort v,
        marks_count sort {v = v} (omega (arith, v_small)),
        le-ltb (row_limit sort) (length r) short,
        le-ltb (length r) 4 (omega (arith, long)),
        eq-eqb (column_count r) (length ts) count-is,
        eq-eqb v v refl,
        le-ltb (length r) (minimum (offset_width sort) true ss) long,
      )

  -- ---- what stands where in it

  pub built-written : length r ≤ row_limit sort → WrittenRow (offset_width sort) (packed_marks sort) ss cs r
  built-written short =
      written_row (offset_width sort) (packed_marks sort) ss cs fit (omega (arith, columns_are))
      (marks_small sort (omega (arith, v_small))) (fits_limit sort short)

  -- ---- a column of it

  module _ (i : ℕ) (h : i < length ts) where
    abbrev t : DataType
    t = type_at ts i

    abbrev x : DataValue
    x = value_at vs i

    abbrev form : List ℕ
    form = stored_form t x (text_of area x)

    abbrev place : ℕ
    place = slot_place (offset_width sort) true ss i

    k : i < length ss
    k = rw length-map h

    bit_is : (c : Cell) → get_or cs i none ≡ c → bit_at i (drop bitmap_start r) ≡ null_bit c
    bit_is c f =
        bit-row (offset_width sort) hd four fit (slots_fit fit) i k
        ∙ ap null_bit (any_default cs i (some []) none (rw (forall_length fit) k) ∙ f)

    null_of_cell : (c : Cell) → get_or cs i none ≡ c → CellIs t x area c
        → eqb (bit_at i (drop bitmap_start r)) 1 ≡ is_null x
    null_of_cell none f (null z) = rw (bit_is none f, z)
    null_of_cell (some y) f (stored z m a) = rw (bit_is (some form) f, z)

    -- its bit is set exactly if it was given null
    pub null-built : eqb (bit_at i (drop bitmap_start r)) 1 ≡ is_null x
    null-built = null_of_cell (get_or cs i none) refl (cell_at_lem area ts vs e n i h)

    shape_is : get_or ss i Varlen ≡ shape_of t
    shape_is = at_map shape_of i ts (T.Varchar false 0)

    module _ (fits : length r < 256 ^ (offset_width sort)) (sized : AllSized vs) where
      module _ (f : get_or cs i none ≡ some form) where
        bytes_are : column_bytes (offset_width sort) ss i (get_or ss i Varlen) r ≡ form
        bytes_are =
            let c : cell_at (offset_width sort) ss i r ≡ some form = cell_built (offset_width sort) (packed_marks sort) fit i k fits ∙ f in
            let d = rw (bit_is (some form) f) at c in
            ap bytes d

        -- in its slot
        slot_stands : is_varlen t ≡ false → length form ≡ size_of t → Stands r place form
        slot_stands g m =
            let s : get_or ss i Varlen ≡ Fixed (size_of t) (alignment_of t) = shape_is ∙ rw g in
            let q = rw (ap slot_size s) at (packed-inside ss i k) in
            record { inside = omega (arith, q, row-length); part = rw m (rw s at bytes_are) }

        -- or at its offset
        module _ (g : is_varlen t ≡ true) where
          varlen_is : get_or ss i Varlen ≡ Varlen
          varlen_is = shape_is ∙ rw g

          abbrev entry : ℕ
          entry = entry_at (offset_width sort) (table_start (length ss)) (rank_of ss i) r

          abbrev end : ℕ
          end = range_end (offset_width sort) (table_start (length ss)) (varlens ss) (rank_of ss i) r

          record Range : Type 0 where
            some-offset : entry ≡ 0 → ⊥
            end_is : end ≡ entry + length form
            end-inside : end ≤ length r

          range : Range
          range =
              let a = rw f at (entry_row (offset_width sort) hd four fit (slots_fit fit) i k varlen_is fits) in
              let z = rw f at (end_row (offset_width sort) hd four fit (slots_fit fit) i k varlen_is fits) in
              let o = of_rank i fit k varlen_is in
              let p = rw (o.cell, f) at (payload-inside (varlen_cells ss cs) (rank_of ss i)) in
              record {
                some-offset = λ q. omega (arith, a, q);
                end_is = omega (arith, a, z);
                end-inside = omega (arith, z, p, row-length);
              }

          range_stands : Stands r entry form
          unfolding range_bytes
          range_stands =
              let q = range in
              let m : end - entry ≡ length form = omega (arith, q.end_is) in
              record {
                inside = omega (arith, q.end_is, q.end-inside);
                part = rw m at (range-row (offset_width sort) hd four fit (slots_fit fit) i k varlen_is fits form f);
              }

          range-is : varlen_range (offset_width sort) (table_start (length ss)) (varlens ss) (rank_of ss i) r ≡ Bytes entry end
          range-is =
              let q = range in
              rw (
                ne_eqb entry 0 q.some-offset,
                le-ltb end entry (omega (arith, q.end_is)),
                le-ltb (length r) end
                    q.end-inside,
              )

      -- what stands there is read, and its text is what stands there
      module _ (m : matches t x ≡ true) (a : accepted t x area ≡ true) where
        suited : suits t x (text_of area x) ≡ true
        suited = accepted-suits t x area a

        read-form : (at : ℕ) → slot_value i (read_slot t at form) ≡ Ok (read_back t at x (text_of area x))
        read-form at = ap (slot_value i)
            (read-stored t x (text_of area x) at m suited (all-sized_at vs sized i (rw n h)))

        -- the bytes of a form that stands at `at` and ends at `end`
        read_there : (at end : ℕ) → Stands r at form → end - at ≡ length form
            → read_bytes t i r at end ≡ Ok (read_back t at x (text_of area x))
        read_there at end p o =
            ap (λ (m : ℕ). slot_value i (read_slot t at (take m (drop at r)))) o
            ∙ ap (λ (b : List ℕ). slot_value i (read_slot t at b)) p.part ∙ read-form at

        text-form : (at : ℕ) → Stands r at form → has_text x ≡ true → text_of r (read_back t at x (text_of area x)) ≡ form
        text-form at p g =
            ap (λ (z : List ℕ). text_of z (read_back t at x (text_of area x))) (split_there r at form p)
            ∙ text-stored t x (text_of area x) (take at r) (drop (length form) (drop at r)) at m suited g
            (length-take-le at r p.inside)

      abbrev back : DataValue
      back = value_back (offset_width sort) ts i x (text_of area x) r

      of_cell : (c : Cell) → get_or cs i none ≡ c → CellIs t x area c → column_value (offset_width sort) true ts i r ≡ Ok back
      of_cell none f (null z) = rw (bit_is none f, z)
      of_cell (some y) f (stored z m a) = by_shape (is_varlen t) refl
        where
          by_shape : (d : Bool) → is_varlen t ≡ d → column_value (offset_width sort) true ts i r ≡ Ok back
          by_shape false g =
              let p = slot_stands f g (length-slot t x area m a g) in
              let o : place + size_of t - place ≡ length form = rw (length-slot t x area m a g) (omega arith) in
              rw (bit_is (some form) f, z, g) (read_there m a place (place + size_of t) p o)
          by_shape true g =
              let o : end f g - entry f g ≡ length form = omega (arith, (range f g).end_is) in
              rw (bit_is (some form) f, z, g, ← columns_are)
              (ap (varlen_value t i r) (range-is f g) ∙ read_there m a (entry f g) (end f g) (range_stands f g) o)

      -- null for a null, the value for a value
      pub column-built : column_value (offset_width sort) true ts i r ≡ Ok back
      column-built = of_cell (get_or cs i none) refl (cell_at_lem area ts vs e n i h)

      text_of_cell : (c : Cell) → get_or cs i none ≡ c → CellIs t x area c → has_text x ≡ true → text_of r back ≡ form
      text_of_cell none f (null z) g = absurd (false≢true (rw (eqb-true (kind_of x) 0 z) at g))
      text_of_cell (some y) f (stored z m a) g = by_shape (is_varlen t) refl
        where
          by_shape : (d : Bool) → is_varlen t ≡ d → text_of r back ≡ form
          by_shape false s = rw (z, s) (text-form m a place (slot_stands f s (length-slot t x area m a s)) g)
          by_shape true s = rw (z, s, ← columns_are) (text-form m a (entry f s) (range_stands f s) g)

      -- "Char: blanks up to n. Varchar: the text's bytes."; "Bit: [..] spare bits [..] zero when written"
      pub text-built : has_text x ≡ true → text_of r back ≡ form
      text-built = text_of_cell (get_or cs i none) refl (cell_at_lem area ts vs e n i h)

  -- ---- all of them

  module _ (fits : length r < 256 ^ (offset_width sort)) (sized : AllSized vs) (wanted : ℕ → Bool) where
    wanted-built : (i : ℕ) → i < length ts
        → wanted_value (wanted i) (column_value (offset_width sort) true ts i r) ≡ Ok
        (cond (wanted i) (value_back (offset_width sort) ts i (value_at vs i) (text_of area (value_at vs i)) r) Null)
    wanted-built i h = by_test (wanted i)
      where
        by_test : (d : Bool)
            → wanted_value d (column_value (offset_width sort) true ts i r) ≡ Ok
            (cond d (value_back (offset_width sort) ts i (value_at vs i) (text_of area (value_at vs i)) r) Null)
        by_test true = column-built i h fits sized
        by_test false = refl

    columns-from : (m i : ℕ) → i + m ≡ length ts
        → read_from (offset_width sort) true ts wanted r i m ≡ Ok (values_back (offset_width sort) ts wanted area r i (drop i vs))
    columns-from zero i q = let none : drop i vs ≡ [] = drop_of_length-le vs {i = i} (omega arith) in rw none
    columns-from (suc m) i q =
        let h : i < length ts = omega arith in
        rw (drop-cons vs i Null (rw n h))
        (ap (λ (c : Result DataValue). on_column c (read_from (offset_width sort) true ts wanted r (suc i) m)) (wanted-built i h)
        ∙ ap (before (cond (wanted i) (value_back (offset_width sort) ts i (value_at vs i) (text_of area (value_at vs i)) r) Null))
        (columns-from m (suc i) (omega arith)))

    pub columns-built : read_from (offset_width sort) true ts wanted r 0 (length ts) ≡ Ok (values_back (offset_width sort) ts wanted area r 0 vs)
    columns-built = columns-from (length ts) 0 (omega arith)
