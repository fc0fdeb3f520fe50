-- Every packed row of accepted values is sound.
use Rattle.std.specs.Prelude.{Ok}
use Prim.Native.Nat.{ℕ, ◌+◌, ◌%◌, ◌^◌, ◌≤◌, ◌<◌}
use mathlib.Core.Path.{◌≡◌, refl, sym, ap, ◌∙◌, subst}
use mathlib.Core.Bool.{Bool, true, false, cond}
use mathlib.Core.List.{List, [], ◌++◌, map, append_assoc}
use mathlib.Core.Option.{none, some}
use native.Mathlib.Omega.{arith}
use borrow.Author.Tests.{le-ltb, eq-eqb}
use lib.Dec.{eqb}
use lib.ListN.{length, get_or, take, drop, length-map, length-drop}
use lib.Seq.{take-append-le, drop-append-le, drop-append_seam, drop-cons}
use Rattle.laws.specs.Bits.{bit_at}
use Rattle.laws.specs.Bytes.{from_le, concat}
use Rattle.laws.specs.InnerForall.{Forall₂, nil, cons}
use Rattle.laws.proofs.Forall.{forall_get, forall_length}
use Rattle.row_format.specs.declared.Shape.{Shape}
use Rattle.row_format.specs.declared.Shape.TheVariants.{Fixed, Varlen}
use Rattle.row_format.specs.Places.{varlens, slot_start, bitmap_size, bitmap_start, minimum, offset_width, row_limit}
use Rattle.row_format.specs.Table.{Cell, bytes, lay}
use Rattle.row_format.specs.Row.{packed_marks, least_mark, header, null_bit, bitmap, varlen_cells, row_with, slot_size}
use Rattle.row_format.proofs.Places.{packed-inside, varlens-le}
use Rattle.row_format.proofs.Bitmap.{length-bitmap, bitmap-bit}
use Rattle.row_format.proofs.Row.{length-header, header-columns, header-varlens, length-row, length_slots, length-varlens, of_rank}
use Rattle.row_format.proofs.Cells.{unless_null, column_bytes, cell_row}
use Rattle.row_format.proofs.Zeroed.{Agree}
use Rattle.row_format.proofs.Sorts.{fits_limit, marks_small, marks_count, marks_packed}
use Rattle.row_format.specs.InnerRow.{FitsCell, FitsSlot}
use Rattle.datatype.specs.declared.DataType.{DataType}
use Rattle.datatype.specs.declared.DataType.TheVariants.{Varchar}
use Rattle.datatype.specs.Types.{size_of, alignment_of, is_varlen, shape_of}
use Rattle.datatype.specs.Check.{type_at}
use Rattle.value.specs.Ranges.{text_of}
use Rattle.stored_form.proofs.Lengths.{accepted-suits, length-stored}
use Rattle.stored_form.proofs.ReadBack.{read-stored}
use Rattle.row_format.specs.Header.{column_count, varlen_field, is_packed}
use Rattle.row_column.specs.Frame.{frame_of}
use Rattle.row_column.proofs.Walk.{shape_at}
use Rattle.row_sound.specs.Sound.{is_sound_in}
use Rattle.row_sound.specs.Written.{Writes, null, form}
use Rattle.row_sound.specs.Laid.{Parts, is_form, sound_cell, sound_part, sound_slot}
use Rattle.row_sound.proofs.Laid.{slot_of, bit_of_lem, laid_sound}

-- ---- a cell that was written is read

abbrev pub holds_form : DataType → Cell → Bool
holds_form t none = true
holds_form t (some b) = is_form t b

pub none-some : {b : List ℕ} → ◌≡◌ {A = Cell} none (some b) → ⊥
none-some q = subst (λ (c : Cell). IsNone c) q tt
  where
    IsNone : Cell → Type 0
    IsNone none = Unit {0}
    IsNone (some b) = ⊥

pub writes_form : {t : DataType} {c : Cell} → Writes t c → holds_form t c ≡ true
writes_form null = refl
writes_form {t} (form v area m a z) = rw (read-stored t v (text_of area v) 0 m (accepted-suits t v area a) z)

fits_shape : (t : DataType) (c : Cell) (x : Bool) → is_varlen t ≡ x → ((b : List ℕ) → c ≡ some b → is_varlen t ≡ false → length b ≡ size_of t) → FitsCell (cond x Varlen (Fixed (size_of t) (alignment_of t))) c
fits_shape t c true e h = tt
fits_shape t none false e h = tt
fits_shape t (some b) false e h = h b refl e

pub writes_fits : {t : DataType} {c : Cell} → Writes t c → FitsCell (shape_of t) c
writes_fits {t} {c} w = fits_shape t c (is_varlen t) refl (of_length w)
  where
    of_length : {d : Cell} → Writes t d → (b : List ℕ) → d ≡ some b → is_varlen t ≡ false → length b ≡ size_of t
    of_length null b q e = absurd (none-some q)
    of_length (form v area m a z) b q e = ap (λ (d : Cell). length (bytes d)) (sym q) ∙ rw e at (length-stored t v (text_of area v) m (accepted-suits t v area a))

-- a column with the bit of its cell
pub written_cell : (t : DataType) (c : Cell) → holds_form t c ≡ true → sound_cell t (eqb (null_bit c) 1) c ≡ true
written_cell t none e = refl
written_cell t (some b) e = e

pub written-slot : (t : DataType) (c : Cell) (slot : List ℕ) → holds_form t c ≡ true → ((b : List ℕ) → c ≡ some b → slot ≡ b) → sound_slot t (eqb (null_bit c) 1) slot ≡ true
written-slot t none slot e h = refl
written-slot t (some b) slot e h = rw (h b refl) e

-- ---- a good header

pub good-frame : (k : Bool) (ts : List DataType) (p : Bool) (r : List ℕ) → length r ≤ row_limit k → column_count r
    ≡ length ts
    → varlen_field r % least_mark k ≡ varlens (map shape_of ts) → is_packed r ≡ p
    → minimum (offset_width k) p (map shape_of ts) ≤ length r → frame_of k ts r ≡ Ok p
good-frame k ts p r a n v f m =
    let h : 4 ≤ length r = omega arith in
    rw (
      le-ltb (row_limit k) (length r) a,
      le-ltb (length r) 4 h,
      eq-eqb (column_count r) (length ts) n,
      eq-eqb
          (varlen_field r % least_mark k) (varlens (map shape_of ts)) v,
      f,
      le-ltb (length r)
          (minimum (offset_width k) p (map shape_of ts)) m,
    )

-- ---- a packed row of such cells, whatever the slots of its null columns hold

pub fits_all : {ts : List DataType} {cs : List Cell} → Forall₂ Writes ts cs → Forall₂ FitsCell (map shape_of ts) cs
fits_all nil = nil
fits_all (cons w e) = cons (writes_fits w) (fits_all e)

module _ (w marks : ℕ) {ts : List DataType} {cs : List Cell} {slots : List (List ℕ)} (written : Forall₂ Writes ts cs) (fit : Forall₂ FitsSlot (map shape_of ts) slots) (agree : Agree (map shape_of ts) cs slots) (fits : length (row_with w (header marks (map shape_of ts)) (map shape_of ts) cs slots) < 256 ^ w) where
  abbrev ss : List Shape
  ss = map shape_of ts

  abbrev head : List ℕ
  head = header marks ss

  abbrev row : List ℕ
  row = row_with w head ss cs slots

  abbrev bits : List ℕ
  bits = bitmap (bitmap_size (length ss)) cs

  cells : Forall₂ FitsCell ss cs
  cells = fits_all written

  row_parts : row ≡ lay w (head ++ bits) (concat slots) (varlen_cells ss cs)
  unfolding row_with
  row_parts = refl

  parts : Parts w true ts head bits (concat slots) (varlen_cells ss cs)
  parts = record { four = length-header marks ss; bitmap = length-bitmap (bitmap_size (length ss)) cs; fixed = length_slots fit; cells = length-varlens cells; fits = rw row_parts at fits }

  module _ (i : ℕ) (h : i < length ts) where
    abbrev cell : Cell
    cell = get_or cs i none

    below : i < length ss
    below = rw (length-map ts shape_of) h

    holds : holds_form (type_at ts i) cell ≡ true
    holds = writes_form (forall_get written i h (Varchar false 0) none)

    bit_is : bit_at i bits ≡ null_bit cell
    bit_is =
        let k : i < length cs = rw (forall_length written) h in
        let any : get_or cs i (some []) ≡ cell = ap (λ (l : List Cell). get_or l 0 none) (sym (drop-cons cs i (some []) k) ∙ drop-cons cs i none k) in
        bitmap-bit (bitmap_size (length ss)) cs i (omega (arith, below)) ∙ ap null_bit any

    slot_is : (b : List ℕ) → cell ≡ some b → is_varlen (type_at ts i) ≡ false → take (size_of (type_at ts i)) (drop (slot_start true ss i) (concat slots)) ≡ b
    slot_is b e v =
        let shape : get_or ss i Varlen ≡ Fixed (size_of (type_at ts i)) (alignment_of (type_at ts i)) = shape_at ts i ∙ rw v in
        let inside : slot_start true ss i + size_of (type_at ts i) ≤ length (concat slots) = rw parts.fixed (rw (ap slot_size shape) at (packed-inside ss i below)) in
        let bit : bit_at i (drop bitmap_start row) ≡ 0 = rw row_parts (bit_of_lem parts i h) ∙ bit_is ∙ rw e in
        let read : unless_null 0 (column_bytes w ss i (Fixed (size_of (type_at ts i)) (alignment_of (type_at ts i))) row) ≡ some b
        = rw (bit, shape) at (cell_row w head (length-header marks ss) cells fit agree i below fits) ∙ e in
        sym (slot_of parts (slot_start true ss i) (size_of (type_at ts i)) inside) ∙ rw row_parts at (ap bytes read)

    by_kind : (x : Bool) → is_varlen (type_at ts i) ≡ x → sound_part true ts bits (concat slots) (varlen_cells ss cs) i ≡ true
    by_kind true v = rw (v, bit_is, (of_rank i cells below (shape_at ts i ∙ rw v)).cell) (written_cell (type_at ts i) cell holds)
    by_kind false v = rw (v, bit_is) (written-slot (type_at ts i) cell _ holds (λ b e. slot_is b e v))

  pub cells-sound_in : is_sound_in w true ts row ≡ true
  cells-sound_in = rw row_parts (laid_sound parts (λ i h. by_kind i h (is_varlen (type_at ts i)) refl))

  cells-long : minimum w true ss ≤ length row
  cells-long = rw (length-row w head (length-header marks ss) cells fit) (omega arith)

  -- its header, up to whatever comes behind it
  cells_head : row ≡ head ++ (bits ++ drop (length (head ++ bits)) row)
  unfolding lay
  cells_head = row_parts ∙ rw row_parts (rw (drop-append_seam, append_assoc))

  cells_count : length ss < 65536 → column_count row ≡ length ss
  cells_count few =
      let four = length-header marks ss in
      let rest : List ℕ = bits ++ drop (length (head ++ bits)) row in
      ap column_count cells_head ∙ ap from_le (take-append-le 2 head rest (omega (arith, four))) ∙ header-columns marks ss few

  cells_field : varlens ss + marks < 65536 → varlen_field row ≡ varlens ss + marks
  cells_field small =
      let four = length-header marks ss in
      let rest : List ℕ = bits ++ drop (length (head ++ bits)) row in
      ap varlen_field cells_head ∙ ap from_le (ap (take 2) (drop-append-le 2 head rest (omega (arith, four))) ∙ take-append-le 2 (drop 2 head) rest (rw (length-drop, four) (omega arith))) ∙ header-varlens marks ss small

-- its header is read back, with the marks of its sort
pub cells-frame : (k : Bool) {ts : List DataType} {cs : List Cell} {slots : List (List ℕ)} → Forall₂ Writes ts cs → Forall₂ FitsSlot (map shape_of ts) slots → Agree (map shape_of ts) cs slots → length ts ≤ 256
    → length (row_with (offset_width k) (header (packed_marks k) (map shape_of ts)) (map shape_of ts) cs slots) ≤ row_limit k
    → frame_of k ts (row_with (offset_width k) (header (packed_marks k) (map shape_of ts)) (map shape_of ts) cs slots) ≡ Ok true
cells-frame k {ts} {cs} {slots} written fit agree few short =
    let ss : List Shape = map shape_of ts in
    let row : List ℕ = row_with (offset_width k) (header (packed_marks k) ss) ss cs slots in
    let n : length ss ≡ length ts = length-map ts shape_of in
    let v : varlens ss < 16384 = omega (arith, varlens-le ss, n) in
    let fits = fits_limit k short in
    let field : varlen_field row ≡ varlens ss + packed_marks k = cells_field (offset_width k) (packed_marks k) written fit agree fits (marks_small k v) in
    good-frame k ts true row short (cells_count (offset_width k) (packed_marks k) written fit agree fits (omega (arith, n)) ∙ n) (rw field (marks_count k v))
    (rw field (marks_packed k (varlens ss))) (cells-long (offset_width k) (packed_marks k) written fit agree fits)
