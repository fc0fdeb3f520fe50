-- Soundness of a column without the value that is read.
use Rattle.error.specs.Result.{Result}
use Rattle.std.specs.Prelude.{None, Ok, Option, Some}
use Prim.Native.Nat.{ℕ, ◌+◌, ◌-◌}
use mathlib.Core.Path.{◌≡◌, refl, sym, ◌∙◌}
use mathlib.Core.Bool.{Bool, true, false, cond, not}
use mathlib.Core.List.{List}
use native.Mathlib.Omega.{arith}
use lib.Dec.{eqb, ltb}
use lib.ListN.{length, take, drop}
use Rattle.laws.specs.Bits.{bit_at}
use Rattle.laws.specs.Bytes.{entry_at}
use Rattle.laws.proofs.Truths.{by_cond}
use Rattle.text_limit.specs.Limit.{fits_text}
use Rattle.row_format.specs.Places.{bitmap_start, table_start, fixed_start, start_at, offset_width}
use Rattle.row_format.specs.Table.{range_end}
use Rattle.row_layout.specs.declared.RowLayout.{RowLayout}
use Rattle.row_layout.specs.declared.VarlenRange.{VarlenRange}
use Rattle.row_layout.specs.declared.VarlenRange.TheVariants as Range
use Rattle.row_layout.specs.Layout.{size_in}
use Rattle.row_layout.specs.Range.{part_of, varlen_range}
use Rattle.datatype.specs.declared.DataType.{DataType}
use Rattle.datatype.specs.declared.DataType.TheVariants.{Char, Character, Varchar}
use Rattle.datatype.specs.Types.{size_of, alignment_of, is_varlen}
use Rattle.value.specs.declared.DataValue.{DataValue}
use Rattle.value.specs.declared.DataValue.TheVariants.{Null}
use Rattle.stored_form.specs.Read.{value_if, read_slot}
use Rattle.row_column.specs.Column.{slot_value, varlen_value}
use Rattle.row_column.specs.InnerWalk.{walked_place, Reachable}
use Rattle.row_sound.specs.Sound.{reads}
use Rattle.row_sound.specs.InnerWalk.{walked_sound}
use Rattle.row_sound.specs.InnerSlots.{range_sound}
use Rattle.row_sound.specs.Laid.{is_value}

-- whether the bit of the column after those of layout b is set
abbrev pub marked_null : RowLayout → List ℕ → Bool
marked_null b r = eqb (bit_at b.num_columns (drop bitmap_start r)) 1

pub value_if_lem : (t : Bool) (v : DataValue) → t ≡ is_value (value_if t v)
value_if_lem true v = refl
value_if_lem false v = refl

-- ---- a fixed column

fixed_cases : (x : Bool) (i : ℕ) (s : Option DataValue) → cond (reads (cond x (Ok Null) (slot_value i s))) true false ≡ cond x true (is_value s)
fixed_cases true i s = refl
fixed_cases false i (Some v) = refl
fixed_cases false i None = refl

either_way : (x : Bool) {y : Bool} → true ≡ y → true ≡ cond x true y
either_way true e = refl
either_way false e = e

pub so_many : (a z : ℕ) → a + z - a ≡ z
so_many a z = omega arith

text_cases : (t : Bool) (i : ℕ) (v : DataValue) → cond (reads (slot_value i (value_if t v))) true false ≡ t
text_cases true i v = refl
text_cases false i v = refl

module _ (l : RowLayout) (p : Bool) (b : RowLayout) (r : List ℕ) where
  fixed-sound : (t : DataType) → is_varlen t ≡ false → walked_sound l p b t r
      ≡ cond (marked_null b r) true (is_value
      (read_slot t (walked_place l p b t) (take (size_of t) (drop (walked_place l p b t) r))))
  unfolding walked_sound
  fixed-sound t v =
      rw (v, so_many (walked_place l p b t) (size_of t))
      (fixed_cases (marked_null b r) b.num_columns
      (read_slot t (walked_place l p b t) (take (size_of t) (drop (walked_place l p b t) r))))

  pub null-sound : (t : DataType) → is_varlen t ≡ false → marked_null b r ≡ true → true ≡ walked_sound l p b t r
  null-sound t v e = sym (fixed-sound t v ∙ rw e)

  -- of a type that any bytes are a value of
  pub any-sound : (t : DataType) → is_varlen t ≡ false → ((a : ℕ) (bs : List ℕ) → true ≡ is_value (read_slot t a bs)) → true ≡ walked_sound l p b t r
  any-sound t v f = either_way (marked_null b r)
      (f (walked_place l p b t) (take (size_of t) (drop (walked_place l p b t) r))) ∙ sym (fixed-sound t v)

  -- not null, with a slot of z bytes at a
  pub slot-told : (t : DataType) → is_varlen t ≡ false → {z : ℕ} → size_of t ≡ z → marked_null b r ≡ false → {a : ℕ} → a
      ≡ walked_place l p b t → {q : Bool} → q ≡ is_value (read_slot t a (take z (drop a r))) → q ≡ walked_sound l p b t r
  slot-told t v e f h g = rw (h, ← e) at g ∙ sym (fixed-sound t v ∙ rw f)

  -- where it stands
  pub place_is : (t : DataType) {z : ℕ} → alignment_of t ≡ z → {f s : ℕ} → f ≡ fixed_start (offset_width l.is_long) l.num_columns l.num_varlen_cols → s ≡ start_at p z (size_in b p) → f + s ≡ walked_place l p b t
  place_is t e g h = rw (g, h, e)

  -- Character is stored as Char is
  pub as_char : {n : ℕ} → Reachable l p b (Character n) r → Reachable l p b (Char n) r
  as_char k = record { whole = k.whole; before = k.before; digits = k.digits; column = k.column; table = k.table; rank = λ v. k.rank v; slot = λ v. k.slot v }

  -- ---- a Varchar

  module _ (q : Bool) (n i : ℕ) where
    abbrev Same : VarlenRange → Type 0
    Same g = cond (reads (varlen_value (Varchar q n) i r g)) true false ≡ range_sound q n r g

    part_same : (a e : ℕ) → Same (part_of (length r) a e)
    part_same a e =
        by_cond Same (ltb e a) Range.Outside _ (λ f. refl)
        (λ f. by_cond Same (ltb (length r) e) Range.Outside (Range.Bytes a e) (λ g. refl) (λ g. text_cases (fits_text q n (take (e - a) (drop a r))) i _))

    range_cases : (z : Bool) (g : VarlenRange) → Same g → cond (reads (varlen_value (Varchar q n) i r (cond z Range.Null g))) (not z) false ≡ range_sound q n r (cond z Range.Null g)
    range_cases true g h = refl
    range_cases false g h = h

  varchar_cases : (x z : Bool) (c : Result DataValue) (w : Bool) → cond (reads c) (not z) false ≡ w → cond (reads (cond x (Ok Null) c)) (cond x z (not z)) false ≡ cond x z w
  varchar_cases true z c w h = refl
  varchar_cases false z c w h = h

  abbrev offset_of : ℕ
  offset_of = entry_at (offset_width l.is_long) (table_start l.num_columns) b.num_varlen_cols r

  abbrev range_in : VarlenRange
  range_in = varlen_range (offset_width l.is_long) (table_start l.num_columns) l.num_varlen_cols b.num_varlen_cols r

  pub varchar-told : (q : Bool) (n : ℕ) → walked_sound l p b (Varchar q n) r
      ≡ cond (marked_null b r) (eqb offset_of 0) (range_sound q n r range_in)
  unfolding walked_sound
  varchar-told q n =
      let i : ℕ = b.num_columns in
      varchar_cases (marked_null b r) (eqb offset_of 0) (varlen_value (Varchar q n) i r range_in) (range_sound q n r range_in)
      (range_cases q n i (eqb offset_of 0) (part_of (length r) offset_of
      (range_end (offset_width l.is_long) (table_start l.num_columns) l.num_varlen_cols b.num_varlen_cols r))
      (part_same q n i offset_of (range_end (offset_width l.is_long) (table_start l.num_columns) l.num_varlen_cols
      b.num_varlen_cols r)))
