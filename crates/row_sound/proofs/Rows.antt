-- What the calls cite of sound rows: what the test says, the row's parts, and that built rows and edits of sound rows are sound.
use Rattle.error.specs.Result.{Result}
use Rattle.std.specs.Prelude.{Err, None, Ok, Option, Some}
use Prim.Native.Nat.{ℕ, suc, ◌+◌, ◌-◌, ◌^◌, ◌≤◌, ◌<◌}
use mathlib.Core.Path.{◌≡◌, refl, sym, ap, ◌∙◌, subst}
use mathlib.Core.Bool.{Bool, true, false, cond}
use mathlib.Core.List.{List, ◌++◌, map}
use mathlib.Core.Option.{none}
use native.Mathlib.Omega.{arith}
use lib.ListN.{length, get_or, take, drop, length-drop, length-map}
use lib.Seq.{take-add, length-take-le}
use Rattle.laws.specs.Bytes.{entry_at}
use Rattle.laws.specs.InnerForall.{Forall₂}
use Rattle.laws.proofs.Bytes.{Below, length-from_table, table_entry}
use Rattle.row_format.specs.declared.Shape.{Shape}
use Rattle.row_format.specs.declared.Shape.TheVariants.{Fixed, Varlen}
use Rattle.row_format.specs.Places.{varlens, fixed_size, rank_of, slot_start, bitmap_start, bitmap_size, table_start, fixed_start, minimum, offset_width, row_limit}
use Rattle.row_format.specs.Table.{Cell, bytes, lay, first_offset, range_end}
use Rattle.row_format.specs.Row.{packed_marks, header, row_with, built_row, slot_size}
use Rattle.row_format.specs.Edit.{range_start, edited_row}
use Rattle.row_format.specs.InnerRising.{held_at, held_cells, Between}
use Rattle.row_format.proofs.Places.{rank-inside, slot-inside}
use Rattle.row_format.proofs.Edit.{length-edited-fixed, length-edited}
use Rattle.row_format.proofs.Front.{edit_front}
use Rattle.row_format.proofs.Row.{slots_fit}
use Rattle.row_format.proofs.Zeroed.{Agree, agree_written}
use Rattle.row_format.proofs.Rising.{length-held, held-at}
use Rattle.row_format.proofs.Sorts.{fits_limit}
use Rattle.row_format.specs.InnerRow.{FitsSlot}
use Rattle.datatype.specs.declared.DataType.{DataType}
use Rattle.datatype.specs.Types.{size_of, alignment_of, is_varlen, shape_of}
use Rattle.datatype.specs.Check.{type_at}
use Rattle.datatype.proofs.Again.{all_aligned}
use Rattle.row_format.specs.Header.{is_packed}
use Rattle.row_column.specs.Frame.{frame_of, on_frame}
use Rattle.row_column.proofs.Walk.{shape_at}
use Rattle.row_column.proofs.Framing.{Fine, fine}
use Rattle.row_column.proofs.Depends.{frame_depends}
use Rattle.row_sound.specs.Sound.{sound_column, is_sound_in, sound_in, soundness, SoundRow}
use Rattle.row_sound.specs.Written.{Writes, null}
use Rattle.row_sound.specs.Reread.{written_content, length_in, Reread}
use Rattle.row_sound.specs.Laid.{Parts, sound_part}
use Rattle.row_sound.proofs.Columns.{offsets_of, sound_at, sound_ranges, sound-long, sound-lay}
use Rattle.row_sound.proofs.Laid.{column-lay, payload-length}
use Rattle.row_sound.proofs.Built.{writes_fits, fits_all, cells-frame, cells-sound_in}
use Rattle.row_sound.proofs.Edits.{Edited, edited, edited-long, edited-sound, reread}
use Rattle.row_sound.specs.InnerSound.{is_sound}

-- ---- what the test says

abbrev IsSound : Option Bool → Type 0
IsSound (Some p) = Unit {0}
IsSound None = ⊥

abbrev flag : Option Bool → Bool
flag (Some p) = p
flag None = false

module _ (k : Bool) (ts : List DataType) (r : List ℕ) where
  pub row-sound : {p : Bool} → SoundRow k ts p r → is_sound k ts r ≡ true
  row-sound s = rw s.frame s.sound

  pub row_told_lem : {p : Bool} → SoundRow k ts p r → soundness k ts r ≡ Some p
  row_told_lem s = rw (s.frame, s.sound)

  pub told-row : {p : Bool} → soundness k ts r ≡ Some p → SoundRow k ts p r
  told-row {p} e = by_frame (frame_of k ts r) refl e
    where
      by_test : (q y : Bool) → frame_of k ts r ≡ Ok q → is_sound_in (offset_width k) q ts r ≡ y → cond y (Some q) None
          ≡ Some p
          → SoundRow k ts p r
      by_test q true f s g = subst (λ (x : Bool). SoundRow k ts x r) (ap flag g)
          (record { frame = f; sound = s })
      by_test q false f s g = absurd (subst IsSound (sym g) tt)

      by_frame : (x : Result Bool) → frame_of k ts r ≡ x → on_frame x (λ b. None) (λ q. sound_in (offset_width k) q ts r) ≡ Some p
          → SoundRow k ts p r
      by_frame (Err b) f g = absurd (subst IsSound (sym g) tt)
      by_frame (Ok q) f g = by_test q (is_sound_in (offset_width k) q ts r) f refl g

-- ---- a good header: the row's length, and its flag

module _ {k : Bool} {ts : List DataType} {p : Bool} {r : List ℕ} (s : SoundRow k ts p r) where
  abbrev w : ℕ
  w = offset_width k

  good : Fine k (λ q. minimum w q (map shape_of ts)) r p
  good = fine k (length ts) (varlens (map shape_of ts)) (λ q. minimum w q (map shape_of ts)) r s.frame

  pub row-short : length r ≤ row_limit k
  row-short = good.short

  pub row-flag : is_packed r ≡ p
  row-flag = good.flag

  -- ---- its parts

  abbrev ss : List Shape
  ss = map shape_of ts

  abbrev head : List ℕ
  head = take bitmap_start r

  abbrev bits : List ℕ
  bits = take (bitmap_size (length ss)) (drop bitmap_start r)

  abbrev region : List ℕ
  region = take (fixed_size p ss) (drop (fixed_start w (length ss) (varlens ss)) r)

  abbrev cells : List Cell
  cells = held_cells (offsets_of w ts r) r

  -- a Varchar's range lies between the payloads of lower and of higher rank, and is its cell
  pub row_ranges : (j : ℕ) → j < varlens ss
      → Between w (table_start (length ss)) (varlens ss) j (minimum w p ss) r
  row_ranges = sound_ranges w p ts r s.sound

  pub row_cell : (j : ℕ) → j < varlens ss → get_or cells j none ≡ held_at (entry_at w (table_start (length ss)) j r) (range_end w (table_start (length ss)) (varlens ss) j r) r
  unfolding range_end
  row_cell j h =
      held-at (offsets_of w ts r) r j (rw length-from_table h) ∙ ap (λ (o : ℕ). held_at o (first_offset (drop (suc j) (offsets_of w ts r)) (length r)) r) (table_entry w (varlens ss) (table_start (length ss)) j r h)

  -- ---- the length of an edited row

  module _ (i : ℕ) (h : i < length ts) where
    below : i < length ss
    below = rw (length-map ts shape_of) h

    pub fixed-length : is_varlen (type_at ts i) ≡ false → (c : Cell) → Writes (type_at ts i) c → length (edited_row w p ss i c r) ≡ length r
    fixed-length v c put =
        let t : DataType = type_at ts i in
        let shape : get_or ss i Varlen ≡ Fixed (size_of t) (alignment_of t) = shape_at ts i ∙ rw v in
        let slot : slot_start p ss i + size_of t ≤ fixed_size p ss = rw (ap slot_size shape) at (slot-inside p ss i (all_aligned ts) below) in
        length-edited-fixed w p ss i r (size_of t) (alignment_of t) c shape (rw v at (writes_fits put))
        (omega (arith, slot, sound-long w p ts r s.sound))

    pub varchar-length : is_varlen (type_at ts i) ≡ true → (c : Cell)
        → length (edited_row w p ss i c r) ≡ length r - (range_end w (table_start (length ss)) (varlens ss) (rank_of ss i) r - range_start w (table_start (length ss)) (varlens ss) (rank_of ss i) r) + length (bytes c)
    varchar-length v c =
        let shape : get_or ss i Varlen ≡ Varlen = shape_at ts i ∙ rw v in
        let b = row_ranges (rank_of ss i) (rank-inside ss i below shape) in
        length-edited w p ss i r c below shape (omega (arith, b.past)) b.rises b.within

    -- a column set to null does not make the row longer
    pub null-short : length (edited_row w p ss i none r) ≤ length r
    null-short = by_kind (is_varlen (type_at ts i)) refl
      where
        by_kind : (x : Bool) → is_varlen (type_at ts i) ≡ x → length (edited_row w p ss i none r) ≤ length r
        by_kind true v = rw (varchar-length v none) (omega arith)
        by_kind false v = rw (fixed-length v none null) (omega arith)

    -- an edit keeps the header, whatever is put there
    pub edit_head : (c : Cell) → take bitmap_start (edited_row w p ss i c r) ≡ take bitmap_start r
    edit_head c = edit_front w p ss i c r (omega (arith, sound-long w p ts r s.sound)) λ e. let b = row_ranges (rank_of ss i) (rank-inside ss i below e) in omega (arith, b.past)

  module _ (octets : Below 256 r) where
    pub row_cut : r ≡ lay w (head ++ bits) region cells
    row_cut = sound-lay w p ts r s.sound octets ∙ ap (λ (front : List ℕ). lay w front region cells) (take-add bitmap_start (bitmap_size (length ss)) r)

    pub row_parts : Parts w p ts head bits region cells
    row_parts =
        let long = sound-long w p ts r s.sound in
        record {
          four = length-take-le 4 r (omega (arith, long));
          bitmap = length-take-le (bitmap_size (length ss)) (drop 4 r) (rw length-drop (omega (arith, long)));
          fixed = length-take-le (fixed_size p ss) (drop (fixed_start w (length ss) (varlens ss)) r)
              (rw length-drop (omega (arith, long)));
          cells = length-held (offsets_of w ts r) r ∙ length-from_table w (varlens ss) (drop (table_start (length ss)) r);
          fits = subst (λ (n : ℕ). n < 256 ^ w) (ap length row_cut) (fits_limit k row-short);
        }

    pub row-columns : (j : ℕ) → j < length ts → sound_part p ts bits region cells j ≡ true
    row-columns j l =
        sym (column-lay row_parts j l) ∙ ap (λ (x : List ℕ). sound_column w p ts j x) (sym row_cut)
        ∙ sound_at w p ts r s.sound j l

    -- its length, as 01 says it
    pub sound-length : length r ≡ length_in w p ts r
    sound-length = subst (λ (x : List ℕ). length x ≡ length_in w p ts x) (sym row_cut) (payload-length row_parts row-columns)

    -- ---- an edit

    module _ (i : ℕ) (h : i < length ts) (c : Cell) (put : Writes (type_at ts i) c) (short : length (edited_row w p ss i c r) ≤ row_limit k) where
      abbrev new : List ℕ
      new = edited_row w p ss i c r

      anew : Edited row_parts row-columns i h c put new
      anew =
          let same : new ≡ edited_row w p ss i c (lay w (head ++ bits) region cells) = ap (edited_row w p ss i c) row_cut in
          subst (Edited row_parts row-columns i h c put) (sym same) (edited row_parts row-columns i h c put (subst (λ (n : ℕ). n < 256 ^ w) (ap length same) (fits_limit k short)))

      -- it is sound again, packed or padded as before
      pub edit_sound : SoundRow k ts p new
      edit_sound =
          record {
            frame = sym (frame_depends k ts r new
                (sym (edit_head i h c)) row-short short
                (rw row-flag (sound-long w p ts r s.sound))
                (rw row-flag (edited-long row_parts row-columns i h c put anew))) ∙ s.frame;
            sound = edited-sound row_parts row-columns i h c put anew;
          }

      -- the column reads as what was put there, the others as before
      pub edit_reread : Reread w p ts i (written_content put) r new
      edit_reread = subst (λ (x : List ℕ). Reread w p ts i (written_content put) x new) (sym row_cut) (reread row_parts row-columns i h c put anew)

-- ---- a row that is laid out of accepted values, whatever the slots of its null columns hold; one that is built

pub cells-row : (k : Bool) {ts : List DataType} {cs : List Cell} {slots : List (List ℕ)} → Forall₂ Writes ts cs → Forall₂ FitsSlot (map shape_of ts) slots → Agree (map shape_of ts) cs slots → length ts ≤ 256
    → length (row_with (offset_width k) (header (packed_marks k) (map shape_of ts)) (map shape_of ts) cs slots) ≤ row_limit k
    → SoundRow k ts true (row_with (offset_width k) (header (packed_marks k) (map shape_of ts)) (map shape_of ts) cs slots)
cells-row k written fit agree few short =
    record { frame = cells-frame k written fit agree few short; sound = cells-sound_in (offset_width k) (packed_marks k) written fit agree (fits_limit k short) }

pub built-row : (k : Bool) {ts : List DataType} {cs : List Cell} → Forall₂ Writes ts cs → length ts ≤ 256 → length (built_row (offset_width k) (packed_marks k) (map shape_of ts) cs) ≤ row_limit k
    → SoundRow k ts true (built_row (offset_width k) (packed_marks k) (map shape_of ts) cs)
built-row k written few short = cells-row k written (slots_fit (fits_all written)) (agree_written (fits_all written)) few short
