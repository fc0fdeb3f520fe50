-- Two columns that are null or of the same bytes have the same content, whatever their type.
use Rattle.error.specs.Result.{Result}
use Rattle.std.specs.Prelude.{None, Ok, Option, Some}
use Rattle.value.specs.declared.DataValue.{DataValue}
use Prim.Native.Nat.{ℕ, ◌+◌, ◌-◌, ◌≤◌}
use mathlib.Core.Path.{◌≡◌, refl, sym, ap, ◌∙◌}
use mathlib.Core.Bool.{Bool, true, false, cond, false≢true}
use mathlib.Core.List.{List, [], ◌∷◌}
use native.Mathlib.Omega.{arith}
use borrow.Author.Tests.{lt-ltb, le-ltb}
use lib.Dec.{ltb}
use lib.ListN.{length, take, drop, length-drop}
use lib.Seq.{length-take-le, drop-drop}
use Rattle.laws.proofs.Same.{same-eq}
use Rattle.laws.proofs.Lent.{drop-take}
use Rattle.row_format.specs.Places.{table_start, start_at, offset_width}
use Rattle.row_format.proofs.Places.{all_at, start_ge}
use Rattle.row_layout.specs.declared.RowLayout.{RowLayout}
use Rattle.row_layout.specs.declared.VarlenRange.{VarlenRange}
use Rattle.row_layout.specs.declared.VarlenRange.TheVariants as Range
use Rattle.row_layout.specs.Layout.{size_in}
use Rattle.row_layout.specs.InnerLayout.{with_column}
use Rattle.row_layout.specs.InnerRange.{Inside}
use Rattle.datatype.specs.declared.DataType.{DataType}
use Rattle.datatype.specs.Types.{size_of, alignment_of, is_varlen, shape_of}
use Rattle.datatype.proofs.Again.{all_aligned}
use Rattle.value.specs.declared.DataValue.TheVariants.{Null}
use Rattle.stored_form.specs.Read.{read_slot}
use Rattle.stored_form.proofs.Anywhere.{both}
use Rattle.value_same.proofs.Equal.{equal_forms_same}
use Rattle.row_column.specs.Column.{slot_value, read_bytes, varlen_value}
use Rattle.row_column.specs.InnerWalk.{walked_place, walked_column, Reachable}
use Rattle.row_sound.specs.Sound.{reads}
use Rattle.row_sound.proofs.Slots.{so_many}
use Rattle.row_reads.proofs.Reading.{range_inside}
use Rattle.row_same.specs.InnerWalk.{compared}
use Rattle.row_same.specs.InnerStored.{alike_ranges, range_in, fixed_in, fixed_part, is_marked}
use Rattle.row_same.specs.InnerStored.{present_alike, stored_alike, Beside}

module _ (t : DataType) (i : ℕ) (a b : List ℕ) where
  abbrev Same : Result DataValue → Result DataValue → Type 0
  Same c d = reads c ≡ true → compared t a c b d ≡ Ok true

  -- the same bytes, from s up to e of row a and from f up to g of row b
  bytes_alike : (s e f g : ℕ) → s ≤ e → e ≤ length a → f ≤ g → g ≤ length b
      → take (e - s) (drop s a) ≡ take (g - f) (drop f b) → Same (read_bytes t i a s e) (read_bytes t i b f g)
  bytes_alike s e f g h k m n eq =
      let x : length bytes ≡ e - s = length-take-le (e - s) (drop s a) (rw length-drop (omega arith)) in
      let y : length (take (g - f) (drop f b)) ≡ g - f =
      length-take-le (g - f) (drop f b) (rw length-drop (omega arith)) in
      let at_a : take (length bytes) (drop s a) ≡ bytes = ap (λ (j : ℕ). take j (drop s a)) x in
      let at_b : take (length bytes) (drop f b) ≡ bytes =
      ap (λ (j : ℕ). take j (drop f b)) (ap length eq ∙ y) ∙ sym eq in
      rw (← eq) (of at_a at_b (read_slot t s bytes) (read_slot t f bytes) refl refl)
    where
      bytes : List ℕ
      bytes = take (e - s) (drop s a)

      of : take (length bytes) (drop s a) ≡ bytes → take (length bytes) (drop f b) ≡ bytes → (x y : Option DataValue)
          → read_slot t s bytes ≡ x → read_slot t f bytes ≡ y → Same (slot_value i x) (slot_value i y)
      of p q (Some v) (Some w) ex ey r = ap Ok (equal_forms_same s f bytes a b p q t ex ey)
      of p q (Some v) None ex ey r = absurd (rw (ex, ey) at (both s f bytes t))
      of p q None y ex ey r = absurd (false≢true r)

  ranges_alike : (x y : VarlenRange) → Inside a x → Inside b y → alike_ranges a x b y ≡ true
      → Same (varlen_value t i a x) (varlen_value t i b y)
  ranges_alike Range.Null y h k e = absurd (false≢true e)
  ranges_alike Range.Outside y h k e = absurd (false≢true e)
  ranges_alike (Range.Bytes s e) Range.Null h k d = absurd (false≢true d)
  ranges_alike (Range.Bytes s e) Range.Outside h k d = absurd (false≢true d)
  ranges_alike (Range.Bytes s e) (Range.Bytes f g) h k d =
      bytes_alike s e f g h.0 h.1 k.0 k.1 (same-eq (take (e - s) (drop s a)) (take (g - f) (drop f b)) d)

  -- the bits first: both null, or neither
  marked_alike : (x y alike : Bool) (c d : Result DataValue) → (alike ≡ true → Same c d)
      → cond x y (cond y false alike) ≡ true → Same (cond x (Ok Null) c) (cond y (Ok Null) d)
  marked_alike true true alike c d h e r = refl
  marked_alike true false alike c d h e r = absurd (false≢true e)
  marked_alike false true alike c d h e r = absurd (false≢true e)
  marked_alike false false alike c d h e r = h e r

-- ---- where the bytes of a fixed column stand

size_with : (x : RowLayout) (t : DataType) (p : Bool) → is_varlen t ≡ false
    → size_in (with_column x (shape_of t)) p ≡ start_at p (alignment_of t) (size_in x p) + size_of t
size_with x t true v = rw v
size_with x t false v = rw v

starts_ge : (x : RowLayout) (t : DataType) (p : Bool) → is_varlen t ≡ false
    → size_in x p ≤ start_at p (alignment_of t) (size_in x p)
starts_ge x t p v = start_ge p (alignment_of t) (size_in x p) (rw v at (all_at 0 (all_aligned (t ∷ []))))

-- a slot of z bytes at st is the end of the part from sx on
module _ (base sx st z : ℕ) (r : List ℕ) (h : sx ≤ st) (k : base + st + z ≤ length r) where
  slot-part : drop (st - sx) (take (base + (st + z) - (base + sx)) (drop (base + sx) r)) ≡ take z (drop (base + st) r)
  slot-part =
      let n : ℕ = base + (st + z) - (base + sx) in
      let m : n - (st - sx) ≡ z = omega arith in
      let o : base + sx + (st - sx) ≡ base + st = omega arith in
      drop-take n (st - sx) (drop (base + sx) r) (omega arith) (rw length-drop (omega arith)) ∙ rw (drop-drop, m, o)

  part_length : length (take (base + (st + z) - (base + sx)) (drop (base + sx) r)) ≡ st - sx + z
  part_length =
      length-take-le (base + (st + z) - (base + sx)) (drop (base + sx) r) (rw length-drop (omega arith)) ∙ omega arith

-- the column of type t after those of layout x
module _ (x : RowLayout) (t : DataType) where
  abbrev start : Bool → ℕ
  start p = start_at p (alignment_of t) (size_in x p)

  pub beside : {l : RowLayout} {p : Bool} {r : List ℕ} {y : RowLayout} → Reachable l p x t r
      → y ≡ with_column x (shape_of t) → Beside x y l p r
  beside {l} {p} {r} {y} h e = of (is_varlen t) refl
    where
      of : (v : Bool) → is_varlen t ≡ v → Beside x y l p r
      of true v =
          let n : y.num_varlen_cols ≡ x.num_varlen_cols + 1 = rw (e, v) in
          record {
            whole = h.whole;
            column = h.column;
            table = h.table;
            rank = λ k. h.rank v;
            rises = λ k. absurd (k (omega (arith, n)));
            slot = λ k. absurd (k (omega (arith, n)));
          }
      of false v =
          let n : y.num_varlen_cols ≡ x.num_varlen_cols = rw (e, v) in
          let z : size_in y p ≡ start p + size_of t = ap (λ (k : RowLayout). size_in k p) e ∙ size_with x t p v in
          record {
            whole = h.whole;
            column = h.column;
            table = h.table;
            rank = λ k. absurd (omega (arith, n, k));
            rises = λ k. omega (arith, z, starts_ge x t p v);
            slot = λ k. omega (arith, z, h.slot v);
          }

  module _ {l : RowLayout} {p : Bool} {a : List ℕ} {m : RowLayout} {q : Bool} {b : List ℕ} (h : Reachable l p x t a)
      (k : Reachable m q x t b) where
    abbrev y : RowLayout
    y = with_column x (shape_of t)

    abbrev i : ℕ
    i = x.num_columns

    -- the part that ends with the slot, by the place of the slot
    abbrev part_to : RowLayout → Bool → List ℕ → List ℕ
    part_to n o r = take (fixed_in n + (start o + size_of t) - (fixed_in n + size_in x o)) (drop (fixed_in n + size_in x o) r)

    slots_alike : is_varlen t ≡ false → fixed_part x y l p a ≡ fixed_part x y m q b
        → take (size_of t) (drop (walked_place l p x t) a) ≡ take (size_of t) (drop (walked_place m q x t) b)
    slots_alike v e =
        let z : ℕ = size_of t in
        let f : size_in x p ≤ start p = starts_ge x t p v in
        let g : size_in x q ≤ start q = starts_ge x t q v in
        let n : part_to l p a ≡ part_to m q b = rw (size_with x t p v, size_with x t q v) at e in
        let u = part_length (fixed_in l) (size_in x p) (start p) z a f (h.slot v) in
        let w = part_length (fixed_in m) (size_in x q) (start q) z b g (k.slot v) in
        let d : start p - size_in x p ≡ start q - size_in x q = omega (arith, sym u ∙ ap length n ∙ w) in
        sym (slot-part (fixed_in l) (size_in x p) (start p) z a f (h.slot v))
        ∙ rw (d, n) (slot-part (fixed_in m) (size_in x q) (start q) z b g (k.slot v))

    abbrev present : Bool → RowLayout → Bool → List ℕ → Result DataValue
    present v n o r =
        cond v (varlen_value t i r (range_in x.num_varlen_cols n r))
        (read_bytes t i r (walked_place n o x t) (walked_place n o x t + size_of t))

    inside : (n : RowLayout) (r : List ℕ) → Inside r (range_in x.num_varlen_cols n r)
    inside n r =
        range_inside (offset_width n.is_long) (table_start n.num_columns) n.num_varlen_cols
        x.num_varlen_cols r

    present_alike_lem : (v : Bool) → is_varlen t ≡ v → present_alike x y l p a m q b ≡ true
        → Same t i a b (present v l p a) (present v m q b)
    present_alike_lem true v e =
        let rank : ℕ = x.num_varlen_cols in
        let n : ltb rank y.num_varlen_cols ≡ true = lt-ltb rank y.num_varlen_cols (rw v (omega arith)) in
        ranges_alike t i a b (range_in rank l a) (range_in rank m b) (inside l a) (inside m b) (rw n at e)
    present_alike_lem false v e =
        let z : ℕ = size_of t in
        let s : ℕ = walked_place l p x t in
        let u : ℕ = walked_place m q x t in
        let rank : ℕ = x.num_varlen_cols in
        let n : ltb rank y.num_varlen_cols ≡ false = le-ltb rank y.num_varlen_cols (rw v (omega arith)) in
        let f = same-eq (fixed_part x y l p a) (fixed_part x y m q b) (rw n at e) in
        bytes_alike t i a b s (s + z) u (u + z) (omega arith) (h.slot v) (omega arith) (k.slot v)
        (rw (so_many s z, so_many u z) (slots_alike v f))

    pub stored-alike : stored_alike x y l p a m q b ≡ true → reads (walked_column l p x t a) ≡ true
        → compared t a (walked_column l p x t a) b (walked_column m q x t b) ≡ Ok true
    stored-alike =
        marked_alike t i a b (is_marked x a) (is_marked x b) (present_alike x y l p a m q b) _ _
        (present_alike_lem (is_varlen t) refl)
