-- The columns of a sound row by their numbers, and its offsets, which rise.
use Rattle.std.specs.Prelude.{Ok}
use Prim.Native.Nat.{ℕ, zero, suc, ◌+◌, ◌≤◌, ◌<◌}
use mathlib.Core.Path.{◌≡◌, refl, sym, ap, ◌∙◌}
use mathlib.Core.Bool.{Bool, true, false, cond, false≢true}
use mathlib.Core.List.{List, [], ◌∷◌, map}
use native.Mathlib.Nat.{le_refl}
use native.Mathlib.Numerals.{add-one}
use native.Mathlib.Omega.{arith}
use borrow.Author.Tests.{ltb-false, ne_eqb, eqb-true}
use lib.Dec.{eqb, ltb}
use lib.ListN.{length, get_or, take, drop, drop_of_length-le, length-map}
use lib.Seq.{drop-cons, take_all}
use Rattle.laws.specs.Bits.{bit_at}
use Rattle.laws.specs.Bytes.{from_table, entry_at}
use Rattle.laws.proofs.Bytes.{Below, length-from_table, table_entry}
use Rattle.laws.proofs.Truths.{both, by_cond, same_or}
use Rattle.row_format.specs.Places.{varlens, rank_after, fixed_size, rank_of, bitmap_start, table_start, fixed_start, minimum}
use Rattle.row_format.specs.declared.Shape.{Shape}
use Rattle.row_format.proofs.Places.{through-next, rank-inside}
use Rattle.row_format.specs.Table.{lay, first_offset, range_end}
use Rattle.row_format.specs.InnerRising.{Rising, held_cells, Between}
use Rattle.row_format.proofs.Rising.{first_le, ranges_between, rising_lay}
use Rattle.row_layout.specs.declared.VarlenRange.{VarlenRange}
use Rattle.row_layout.specs.declared.VarlenRange.TheVariants as Range
use Rattle.row_layout.specs.Range.{part_of, varlen_range}
use Rattle.datatype.specs.declared.DataType.{DataType}
use Rattle.datatype.specs.Types.{is_varlen, shape_of}
use Rattle.datatype.specs.Check.{type_at}
use Rattle.value.specs.declared.DataValue.TheVariants.{Null}
use Rattle.row_column.specs.Column.{varlen_value, column_value}
use Rattle.row_column.proofs.Walk.{shape_at}
use Rattle.row_sound.specs.Sound.{reads, zero_if_null, sound_column, sound_from, first_payload, is_sound_in}

-- ---- by their numbers

module _ (w : ℕ) (p : Bool) (ts : List DataType) (r : List ℕ) where
  sound-from : (n i : ℕ) → ((j : ℕ) → j < i + n → sound_column w p ts j r ≡ true) → sound_from w p ts r i n ≡ true
  sound-from zero i all = refl
  sound-from (suc n) i all = rw (all i (omega arith)) (sound-from n (suc i) (λ j h. all j (omega arith)))

  pub columns-sound : ((i : ℕ) → i < length ts → sound_column w p ts i r ≡ true) → sound_from w p ts r 0 (length ts)
      ≡ true
  columns-sound all = sound-from (length ts) 0 (λ j h. all j (omega arith))

  from-sound : (n i : ℕ) → sound_from w p ts r i n ≡ true → (j : ℕ) → i ≤ j → j < i + n → sound_column w p ts j r ≡ true
  from-sound zero i s j h l = absurd (omega arith)
  from-sound (suc n) i s j h l =
      let q = both (sound_column w p ts i r) (sound_from w p ts r (suc i) n) s in
      same_or i j (λ e. rw (← e) q.0) (λ ne. from-sound n (suc i) q.1 j (omega (arith, ne)) (omega arith))

  pub sound-column : sound_from w p ts r 0 (length ts) ≡ true → (i : ℕ) → i < length ts → sound_column w p ts i r ≡ true
  sound-column s i h = from-sound (length ts) 0 s i (omega arith) (omega arith)

-- ---- offsets that rise

-- a range that is read starts before its end
part-rises : (t : DataType) (i n a e : ℕ) (r : List ℕ) → reads (varlen_value t i r (part_of n a e)) ≡ true → a ≤ e
part-rises t i n a e r =
    by_cond (λ (x : VarlenRange). reads (varlen_value t i r x) ≡ true → a ≤ e) (ltb e a) Range.Outside (cond (ltb n e) Range.Outside (Range.Bytes a e)) (λ _ f. absurd (false≢true f)) (λ q _. ltb-false e a q)

range-rises : (w : ℕ) (t : DataType) (i table v k o : ℕ) (r : List ℕ) (null : Bool) → entry_at w table k r ≡ o → 0 < o → reads (cond null (Ok Null) (varlen_value t i r (varlen_range w table v k r))) ≡ true → zero_if_null o null ≡ true
    → o ≤ range_end w table v k r
range-rises w t i table v k o r true q h f z = absurd (omega (arith, eqb-true o 0 z))
range-rises w t i table v k o r false q h f z =
    let n : eqb o 0 ≡ false = ne_eqb o 0 (λ e. omega arith) in
    part-rises t i (length r) o (range_end w table v k r) r (rw (q, n) at f)

rising_cons : (e o : ℕ) (os : List ℕ) → (0 < o → o ≤ first_offset os e) → Rising e os → Rising e (o ∷ os)
rising_cons e zero os h u = u
rising_cons e (suc o) os h u = (h (omega arith), u)

-- the table of a row with the columns ts and offsets of w bytes
abbrev pub offsets_of : ℕ → List DataType → List ℕ → List ℕ
offsets_of w ts r = from_table w (varlens (map shape_of ts)) (drop (table_start (length (map shape_of ts))) r)

module _ (w : ℕ) (p : Bool) (r : List ℕ) (ts : List DataType) where
  abbrev ss : List Shape
  ss = map shape_of ts

  abbrev rank : ℕ → ℕ
  rank i = rank_of ss i

  rank-next : (i : ℕ) → i < length ts → rank (suc i) ≡ rank_after (shape_of (type_at ts i)) (rank i)
  rank-next i h = through-next rank_after ss i 0 (rw (length-map ts shape_of) h) ∙ rw (shape_at ts i)

  module _ (all : (i : ℕ) → i < length ts → sound_column w p ts i r ≡ true) where
    own-rises : (i : ℕ) → i < length ts → is_varlen (type_at ts i) ≡ true
        → 0 < entry_at w (table_start (length ss)) (rank i) r
        → entry_at w (table_start (length ss)) (rank i) r ≤ range_end w (table_start (length ss))
        (varlens ss) (rank i) r
    unfolding sound_column
    own-rises i h v pos =
        let n : length ts ≡ length ss = sym (length-map ts shape_of) in
        let s = both (reads (column_value w p ts i r)) _ (all i h) in
        let f = rw (v, n) at s.0 in
        let z = rw (v, n) at s.1 in
        range-rises w (type_at ts i) i (table_start (length ss)) (varlens ss) (rank i) _ r
        (eqb (bit_at i (drop bitmap_start r)) 1) refl pos f z

    rising_at : (i : ℕ) → i < length ts → (x : Bool) → is_varlen (type_at ts i) ≡ x → Rising (length r) (drop (rank (suc i)) (offsets_of w ts r)) → Rising (length r) (drop (rank i) (offsets_of w ts r))
    unfolding range_end
    rising_at i h false v u = rw (rank-next i h, v) at u
    rising_at i h true v u =
        let next : rank (suc i) ≡ suc (rank i) = rank-next i h ∙ rw v (add-one (rank i)) in
        let k : rank i < varlens (map shape_of ts) = rank-inside ss i (rw (length-map ts shape_of) h)
        (shape_at ts i ∙ rw v) in
        let is : get_or (offsets_of w ts r) (rank i) 0 ≡ entry_at w (table_start (length (map shape_of ts))) (rank i) r = table_entry w (varlens (map shape_of ts)) (table_start (length (map shape_of ts))) (rank i) r k in
        rw (drop-cons (offsets_of w ts r) (rank i) 0 (rw length-from_table k), is) (rising_cons (length r) _ (drop (suc (rank i)) (offsets_of w ts r)) (own-rises i h v) (rw next at u))

    rising_from : (n i : ℕ) → i + n ≡ length ts → Rising (length r) (drop (rank i) (offsets_of w ts r))
    rising_from zero i e =
        let whole : rank i ≡ varlens (map shape_of ts) = ap varlens
        (take_all i ss (rw (length-map ts shape_of) (omega arith))) in
        let none : drop (rank i) (offsets_of w ts r) ≡ [] = drop_of_length-le (offsets_of w ts r) {i = rank i} (rw (length-from_table, whole) (le_refl (varlens (map shape_of ts)))) in
        rw none tt
    rising_from (suc n) i e = rising_at i (omega arith) (is_varlen (type_at ts i)) refl (rising_from n (suc i) (omega arith))

-- ---- a sound row

module _ (w : ℕ) (p : Bool) (ts : List DataType) (r : List ℕ) (s : is_sound_in w p ts r ≡ true) where
  parts : (sound_from w p ts r 0 (length ts) ≡ true)
      × (eqb (first_payload w (table_start (length ts)) (varlens (map shape_of ts)) r)
      (minimum w p (map shape_of ts)) ≡ true)
  parts = both (sound_from w p ts r 0 (length ts)) _ s

  pub sound_at : (i : ℕ) → i < length ts → sound_column w p ts i r ≡ true
  sound_at = sound-column w p ts r parts.0

  -- the offsets rise, and the first payload stands at the minimum
  pub sound_first : first_offset (offsets_of w ts r) (length r) ≡ minimum w p (map shape_of ts)
  sound_first =
      ap (λ (n : ℕ). first_payload w (table_start n) (varlens (map shape_of ts)) r) (length-map ts shape_of)
      ∙ eqb-true (first_payload w (table_start (length ts)) (varlens (map shape_of ts)) r)
      (minimum w p (map shape_of ts)) parts.1

  pub sound_rising : Rising (length r) (offsets_of w ts r)
  sound_rising = rising_from w p r ts sound_at (length ts) 0 (omega arith)

  -- so each range lies between the payloads of lower and of higher rank
  pub sound_ranges : (k : ℕ) → k < varlens (map shape_of ts)
      → Between w (table_start (length (map shape_of ts))) (varlens (map shape_of ts)) k
      (minimum w p (map shape_of ts)) r
  sound_ranges k h = rw sound_first at (ranges_between w (table_start (length (map shape_of ts))) (varlens (map shape_of ts)) r sound_rising k h)

  pub sound-long : minimum w p (map shape_of ts) ≤ length r
  sound-long = rw (← sound_first) (first_le (length r) (offsets_of w ts r) sound_rising)

  -- the row is laid out of its header and bitmap, its fixed columns, and the cells of its Varchars
  pub sound-lay : Below 256 r → r ≡ lay w (take (table_start (length (map shape_of ts))) r) (take
      (fixed_size p (map shape_of ts)) (drop
      (fixed_start w (length (map shape_of ts)) (varlens (map shape_of ts))) r)) (held_cells (offsets_of w ts r) r)
  sound-lay bytes = rising_lay w (table_start (length (map shape_of ts))) (varlens (map shape_of ts))
      (fixed_size p (map shape_of ts)) r bytes sound_rising sound_first
