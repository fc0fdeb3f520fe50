-- A sound row whose column is set to null or to an accepted value is sound.
use Prim.Native.Nat.{ℕ, zero, suc, ◌+◌, ◌/◌, ◌^◌, ◌≤◌, ◌<◌}
use mathlib.Core.Path.{◌≡◌, refl, sym, ap, ◌∙◌, subst}
use mathlib.Core.Bool.{Bool, true, false, false≢true}
use mathlib.Core.List.{List, [], ◌∷◌, ◌++◌, map}
use mathlib.Core.Option.{none, some}
use native.Mathlib.Omega.{arith}
use lib.Dec.{eqb}
use lib.ListN.{length, get_or, take, drop, set, length-append, length-map, length-set}
use lib.Seq.{take-take, length-take-le, get_or-take, get_or-set_same, get_or-set_other}
use Rattle.laws.specs.Bits.{bit_at, put_bit_at}
use Rattle.laws.specs.Bytes.{splice}
use Rattle.laws.proofs.Bytes.{same-length-splice, splice_outside}
use Rattle.laws.proofs.Parts.{part_at, part_same}
use Rattle.laws.proofs.Truths.{cases, same_or}
use Rattle.row_format.specs.declared.Shape.{Shape}
use Rattle.row_format.specs.declared.Shape.TheVariants.{Fixed, Varlen}
use Rattle.row_format.specs.Places.{rank_of, slot_start, bitmap_size, minimum}
use Rattle.row_format.specs.Table.{Cell, bytes, payloads, lay}
use Rattle.row_format.specs.Row.{null_bit, slot_size}
use Rattle.row_format.specs.Edit.{slot_edit, edited_row}
use Rattle.row_format.proofs.Bitmap.{null-bit-le}
use Rattle.row_format.proofs.Places.{rank-inside, slot-inside, slots_apart}
use Rattle.row_format.proofs.Edit.{edit_fixed, edit_varlen}
use Rattle.row_format.specs.InnerRow.{FitsCell}
use Rattle.datatype.specs.declared.DataType.{DataType}
use Rattle.datatype.specs.Types.{size_of, alignment_of, is_varlen, shape_of}
use Rattle.datatype.specs.Check.{type_at}
use Rattle.datatype.proofs.Again.{all_aligned}
use Rattle.row_column.proofs.Walk.{shape_at}
use Rattle.row_sound.specs.Sound.{is_sound_in}
use Rattle.row_sound.specs.Written.{Writes}
use Rattle.row_sound.specs.Reread.{column_content, written_content, payload_of, length_in, Reread}
use Rattle.row_sound.specs.Laid.{Parts, held_content, held_part, sound_part}
use Rattle.row_sound.proofs.Contents.{null-held, written-content}
use Rattle.row_sound.proofs.Laid.{laid_length, content-lay, payload-lay, laid_sound, payload-length}
use Rattle.row_sound.proofs.Built.{none-some, writes_form, writes_fits, written_cell, written-slot}
use Rattle.row_sound.proofs.PutBits.{bit_at_put, bit_at_kept}

-- ---- a slot of a region replaced

module _ (at z : ℕ) (region : List ℕ) (h : at + z ≤ length region) where
  abbrev OfSize : Cell → Type 0
  OfSize c = (b : List ℕ) → c ≡ some b → length b ≡ z

  length-slot : (c : Cell) → OfSize c → length (slot_edit at z c region) ≡ length region
  length-slot none f = refl
  length-slot (some b) f = same-length-splice at (at + z) b region (rw (f b refl)) h

  slot_new : (c : Cell) → OfSize c → (b : List ℕ) → c ≡ some b → take z (drop at (slot_edit at z c region)) ≡ b
  slot_new none f b e = absurd (none-some e)
  slot_new (some d) f b e =
      ap (λ (n : ℕ). take n (drop at (splice at (at + z) d region))) (sym (f d refl)) ∙ part_at (take at region) d (drop (at + z) region) at (length-take-le at region (omega arith)) ∙ ap bytes e

  slot_kept_lem : (c : Cell) → OfSize c → (a n : ℕ) → ((k : ℕ) → a ≤ k → k < a + n → at ≤ k → k < at + z → ⊥) → take n (drop a (slot_edit at z c region)) ≡ take n (drop a region)
  slot_kept_lem none f a n out = refl
  slot_kept_lem (some b) f a n out =
      let e : at + length b ≡ at + z = rw (f b refl) in
      part_same a n (splice at (at + z) b region) region (same-length-splice at (at + z) b region e h) (λ k l m. splice_outside at (at + z) b region e h k (out k l m))

-- a cell replaced
payloads-set : (ps : List Cell) (k : ℕ) (c : Cell) → k < length ps → length (payloads (set ps k c)) + length (bytes (get_or ps k none)) ≡ length (payloads ps) + length (bytes c)
payloads-set [] k c h = absurd (omega arith)
payloads-set (d ∷ ps) zero c h = simp length-append (omega arith)
payloads-set (d ∷ ps) (suc k) c h = simp length-append (omega (arith, payloads-set ps k c (omega arith)))

-- a Varchar before another has the lower rank
rank_rises : (ss : List Shape) (i j : ℕ) → i < j → j < length ss → get_or ss i Varlen ≡ Varlen → rank_of ss i < rank_of ss j
rank_rises ss i j h l v =
    let n : length (take j ss) ≡ j = length-take-le j ss (omega arith) in
    let k = rank-inside (take j ss) i (rw n h) (get_or-take j ss i Varlen h ∙ v) in
    rw (take-take i j ss (omega arith)) at k

-- ---- a row laid out of parts, each column of which is sound, and column i set to c

module _ {w : ℕ} {p : Bool} {ts : List DataType} {head bits region : List ℕ} {ps : List Cell} (q : Parts w p ts head bits region ps) (sound : (j : ℕ) → j < length ts → sound_part p ts bits region ps j ≡ true)
    (i : ℕ) (h : i < length ts) (c : Cell) (put : Writes (type_at ts i) c) where
  abbrev ss : List Shape
  ss = map shape_of ts

  abbrev t : DataType
  t = type_at ts i

  abbrev new_bits : List ℕ
  new_bits = put_bit_at (null_bit c) i bits

  below : (j : ℕ) → j < length ts → j < length ss
  below j l = rw (length-map ts shape_of) l

  byte_inside : i / 8 < length bits
  byte_inside = rw q.bitmap (omega (arith, below i h))

  bit_new : bit_at i new_bits ≡ null_bit c
  bit_new = bit_at_put (null_bit c) i bits (null-bit-le c) byte_inside

  bit_kept : (j : ℕ) → (i ≡ j → ⊥) → bit_at j new_bits ≡ bit_at j bits
  bit_kept j ne = bit_at_kept (null_bit c) i bits (null-bit-le c) byte_inside j ne

  length_bits : length new_bits ≡ bitmap_size (length ss)
  length_bits = length-set bits (i / 8) _ ∙ q.bitmap

  -- a fixed column
  module _ (v : is_varlen t ≡ false) where
    shape : get_or ss i Varlen ≡ Fixed (size_of t) (alignment_of t)
    shape = shape_at ts i ∙ rw v

    abbrev start : ℕ
    start = slot_start p ss i

    inside : start + size_of t ≤ length region
    inside = rw q.fixed (rw (ap slot_size shape) at (slot-inside p ss i (all_aligned ts) (below i h)))

    fits : FitsCell (Fixed (size_of t) (alignment_of t)) c
    fits = rw v at (writes_fits put)

    sized : (b : List ℕ) → c ≡ some b → length b ≡ size_of t
    sized b e = rw e at fits

    abbrev new_region : List ℕ
    new_region = slot_edit start (size_of t) c region

    -- the slot of another fixed column
    others : (j : ℕ) → j < length ts → (i ≡ j → ⊥) → is_varlen (type_at ts j) ≡ false → (k : ℕ) → slot_start p ss j ≤ k → k < slot_start p ss j + size_of (type_at ts j) → start ≤ k → k < start + size_of t → ⊥
    others j l ne f k a b d e =
        let other : get_or ss j Varlen ≡ Fixed (size_of (type_at ts j)) (alignment_of (type_at ts j)) = shape_at ts j ∙ rw f in
        cases i j (λ g. let m = rw (ap slot_size shape) at (slots_apart p ss i j (all_aligned ts) g (below j l)) in omega arith)
        (λ g. let m = rw (ap slot_size other) at (slots_apart p ss j i (all_aligned ts) (omega (arith, ne)) (below i h)) in omega arith)

    fixed_other : (j : ℕ) → j < length ts → (i ≡ j → ⊥) → (x : Bool) → is_varlen (type_at ts j) ≡ x → held_part p ts new_region ps j ≡ held_part p ts region ps j
    fixed_other j l ne true f = rw f
    fixed_other j l ne false f = rw (f, slot_kept_lem start (size_of t) region inside c sized (slot_start p ss j) (size_of (type_at ts j)) (others j l ne f))

    fixed-own : (b : List ℕ) → c ≡ some b → held_part p ts new_region ps i ≡ some b
    fixed-own b e = rw v (ap some (slot_new start (size_of t) region inside c sized b e))

  -- a Varchar
  module _ (v : is_varlen t ≡ true) where
    is_varlen_lem : (j : ℕ) → is_varlen (type_at ts j) ≡ true → get_or ss j Varlen ≡ Varlen
    is_varlen_lem j f = shape_at ts j ∙ rw f

    rank-within : rank_of ss i < length ps
    rank-within = rw q.cells (rank-inside ss i (below i h) (is_varlen_lem i v))

    rank_other : (j : ℕ) → j < length ts → (i ≡ j → ⊥) → is_varlen (type_at ts j) ≡ true → rank_of ss j ≡ rank_of ss i → ⊥
    rank_other j l ne f e =
        cases i j (λ g. omega (arith, rank_rises ss i j g (below j l) (is_varlen_lem i v), e))
        (λ g. omega (arith, rank_rises ss j i (omega (arith, ne)) (below i h) (is_varlen_lem j f), e))

    abbrev new_cells : List Cell
    new_cells = set ps (rank_of ss i) c

    varchar_other : (j : ℕ) → j < length ts → (i ≡ j → ⊥) → (x : Bool) → is_varlen (type_at ts j) ≡ x → held_part p ts region new_cells j ≡ held_part p ts region ps j
    varchar_other j l ne true f = rw (f, get_or-set_other ps (rank_of ss i) (rank_of ss j) c none (rank_other j l ne f))
    varchar_other j l ne false f = rw f

    varchar-own : held_part p ts region new_cells i ≡ c
    varchar-own = rw (v, get_or-set_same ps (rank_of ss i) c none rank-within)

  abbrev row : List ℕ
  row = lay w (head ++ bits) region ps

  -- the edited row: it is laid out of parts again, in which column i holds the cell and the others what they held
  pub record Edited (r : List ℕ) : Type 0 where
    pub new_region_lem : List ℕ
    pub new_cells_lem : List Cell
    pub parts : Parts w p ts head new_bits new_region_lem new_cells_lem
    pub row_is : r ≡ lay w (head ++ new_bits) new_region_lem new_cells_lem
    pub own : (b : List ℕ) → c ≡ some b → held_part p ts new_region_lem new_cells_lem i ≡ some b
    pub own-varchar : is_varlen t ≡ true → held_part p ts new_region_lem new_cells_lem i ≡ c
    pub others : (j : ℕ) → j < length ts → (i ≡ j → ⊥) → held_part p ts new_region_lem new_cells_lem j ≡ held_part p ts region ps j
    pub long-fixed : is_varlen t ≡ false → length r ≡ length row
    pub long-varchar : is_varlen t ≡ true → length r + length (bytes (held_part p ts region ps i)) ≡ length row + length (bytes c)

  fixed-edited : is_varlen t ≡ false → length (edited_row w p ss i c row) < 256 ^ w → Edited (edited_row w p ss i c row)
  fixed-edited v short =
      let e : edited_row w p ss i c row ≡ lay w (head ++ new_bits) (new_region v) ps = edit_fixed w p ss i (below i h) head bits region ps q.four q.bitmap q.cells c (size_of t) (alignment_of t) (shape v) (fits v) (inside v) in
      let u : Parts w p ts head new_bits (new_region v) ps = record { four = q.four; bitmap = length_bits; fixed = length-slot (start v) (size_of t) region (inside v) c (sized v) ∙ q.fixed; cells = q.cells; fits = rw e at short } in
      record {
        new_region_lem = new_region v;
        new_cells_lem = ps;
        parts = u;
        row_is = e;
        own = fixed-own v;
        own-varchar = λ f. absurd (false≢true (sym v ∙ f));
        others = λ j l ne. fixed_other v j l ne (is_varlen (type_at ts j)) refl;
        long-fixed = λ f. ap length e ∙ laid_length u ∙ sym (laid_length q);
        long-varchar = λ f. absurd (false≢true (sym v ∙ f));
      }

  varchar-edited : is_varlen t ≡ true → length (edited_row w p ss i c row) < 256 ^ w → Edited (edited_row w p ss i c row)
  varchar-edited v short =
      let e : edited_row w p ss i c row ≡ lay w (head ++ new_bits) region (new_cells v) = edit_varlen w p ss i (below i h) head bits region ps q.four q.bitmap q.cells c (is_varlen_lem v i v) q.fits in
      let u : Parts w p ts head new_bits region (new_cells v) = record { four = q.four; bitmap = length_bits; fixed = q.fixed; cells = length-set ps (rank_of ss i) c ∙ q.cells; fits = rw e at short } in
      record {
        new_region_lem = region;
        new_cells_lem = new_cells v;
        parts = u;
        row_is = e;
        own = λ b f. varchar-own v ∙ f;
        own-varchar = λ f. varchar-own v;
        others = λ j l ne. varchar_other v j l ne (is_varlen (type_at ts j)) refl;
        long-fixed = λ f. absurd (false≢true (sym f ∙ v));
        long-varchar = λ f. rw (v, ap length e, laid_length u, laid_length q) (omega (arith, payloads-set ps (rank_of ss i) c (rank-within v)));
      }

  pub edited : length (edited_row w p ss i c row) < 256 ^ w → Edited (edited_row w p ss i c row)
  edited = by_kind (is_varlen t) refl
    where
      by_kind : (x : Bool) → is_varlen t ≡ x → length (edited_row w p ss i c row) < 256 ^ w → Edited (edited_row w p ss i c row)
      by_kind true v = varchar-edited v
      by_kind false v = fixed-edited v

  module _ {r : List ℕ} (e : Edited r) where
    pub edited-long : minimum w p ss ≤ length r
    edited-long = rw (e.row_is, laid_length e.parts) (omega arith)

    -- ---- it is sound

    own-sound : (x : Bool) → is_varlen t ≡ x → sound_part p ts new_bits e.new_region_lem e.new_cells_lem i ≡ true
    own-sound true v = rw (bit_new, e.own-varchar v, v) (written_cell t c (writes_form put))
    own-sound false v = rw (bit_new, v) (written-slot t c _ (writes_form put) (λ b f. rw v at (ap bytes (e.own b f))))

    other_sound : (j : ℕ) → j < length ts → (i ≡ j → ⊥) → sound_part p ts new_bits e.new_region_lem e.new_cells_lem j ≡ sound_part p ts bits region ps j
    other_sound j l ne = rw (bit_kept j ne, e.others j l ne)

    each-sound : (j : ℕ) → j < length ts → sound_part p ts new_bits e.new_region_lem e.new_cells_lem j ≡ true
    each-sound j l = same_or i j (λ f. ap (sound_part p ts new_bits e.new_region_lem e.new_cells_lem) (sym f) ∙ own-sound (is_varlen t) refl) (λ ne. other_sound j l ne ∙ sound j l)

    pub edited-sound : is_sound_in w p ts r ≡ true
    edited-sound = rw e.row_is (laid_sound e.parts each-sound)

    -- ---- what is read of it

    content_new : (j : ℕ) → j < length ts → column_content w p ts j r ≡ held_content (type_at ts j) j (eqb (bit_at j new_bits) 1) (held_part p ts e.new_region_lem e.new_cells_lem j)
    content_new j l = rw e.row_is (content-lay e.parts j l)

    others-content : (j : ℕ) → j < length ts → (i ≡ j → ⊥) → column_content w p ts j r ≡ column_content w p ts j row
    others-content j l ne = content_new j l ∙ rw (bit_kept j ne, e.others j l ne) (sym (content-lay q j l))

    own-content : column_content w p ts i r ≡ written_content put
    own-content = content_new i h ∙ rw bit_new (by_cell c refl) ∙ written-content i put
      where
        by_cell : (d : Cell) → c ≡ d → held_content t i (eqb (null_bit c) 1) (held_part p ts e.new_region_lem e.new_cells_lem i) ≡ held_content t i (eqb (null_bit c) 1) c
        by_cell none f = rw f (null-held t i (held_part p ts e.new_region_lem e.new_cells_lem i))
        by_cell (some b) f = ap (held_content t i (eqb (null_bit c) 1)) (e.own b f ∙ sym f)

    payload-change : (x : Bool) → is_varlen t ≡ x → length r + length (payload_of w p ts i row) ≡ length row + length (payload_of w p ts i r)
    payload-change true v =
        let old : length (payload_of w p ts i row) ≡ length (bytes (held_part p ts region ps i)) = ap length (payload-lay q i h v (sound i h)) in
        let new : length (payload_of w p ts i r) ≡ length (bytes c) = ap (λ (x : List ℕ). length (payload_of w p ts i x)) e.row_is ∙ ap length (payload-lay e.parts i h v (each-sound i h) ∙ ap bytes (e.own-varchar v)) in
        ap (λ (n : ℕ). length r + n) old ∙ e.long-varchar v ∙ ap (λ (n : ℕ). length row + n) (sym new)
    payload-change false v = rw v (ap (λ (n : ℕ). n + 0) (e.long-fixed v))

    long_new : length r ≡ length_in w p ts r
    long_new = subst (λ (x : List ℕ). length x ≡ length_in w p ts x) (sym e.row_is) (payload-length e.parts each-sound)

    pub reread : Reread w p ts i (written_content put) row r
    reread = record { own = own-content; others = others-content; long = long_new; change = payload-change (is_varlen t) refl }
