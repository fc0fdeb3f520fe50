-- A fixed column's slot and a column's bit; a column of any type.

use Rattle.error.specs.Result.{Result}
use Prim.Native.Nat.{ℕ, ◌+◌, ◌-◌, ◌/◌, ◌≤◌, ◌<◌}
use mathlib.Core.Path.{◌≡◌, refl, sym, ap, ◌∙◌}
use mathlib.Core.Bool.{Bool, true, false}
use mathlib.Core.List.{List, ◌++◌, append-nil}
use mathlib.Core.Option.{none, some}
use native.Mathlib.Omega.{arith}
use lib.ListN.{length, take, drop, length-drop, take-append-drop}
use lib.Seq.{sets, length-sets, length-take-le}
use borrow.Author.Tests.{lt-leb}
use Rattle.laws.specs.Bits.{put_bit_at}
use Rattle.laws.specs.Bytes.{splice}
use Rattle.laws.proofs.Bytes.{same-length-splice}
use Rattle.laws.proofs.Parts.{part-all, part_none}
use Rattle.laws.proofs.Stores.{sets-left, sets-splice}
use Rattle.laws.proofs.Truths.{by_cond}
use Rattle.null_bitmap.specs.InnerBitmap.{flag_put}
use Rattle.row_format.specs.Places.{bitmap_start, table_start, offset_width}
use Rattle.row_format.specs.Table.{Cell, bytes}
use Rattle.row_format.specs.Edit.{offset_table, span, slot_edit, range_edit}
use Rattle.row_format.specs.declared.Shape.TheVariants.{Fixed}
use Rattle.row_format.specs.Row.{null_bit}
use Rattle.row_format.proofs.Edit.{length-bit_edit, length-range_edit}
use Rattle.row_format.specs.InnerRow.{FitsCell}
use Rattle.row_layout.specs.declared.RowLayout.{RowLayout}
use Rattle.datatype.specs.declared.DataType.{DataType}
use Rattle.datatype.specs.Types.{size_of, is_varlen}
use Rattle.value.specs.declared.DataValue.{DataValue}
use Rattle.value.specs.Ranges.{range_of, text_of}
use Rattle.stored_form.proofs.Lengths.{length-stored, accepted-suits}
use Rattle.row_column.specs.InnerWalk.{walked_place}
use Rattle.row_patch.specs.InnerHeld.{Holds}
use Rattle.row_patch.specs.InnerStores.{form_of, bit_put, column_set, row_set, Suited, change, Editable}
use Rattle.row_patch.proofs.Held.{row_of, held_again}
use Rattle.row_patch.proofs.Ranges.{length-text}

-- ---- a slot

pub length-slot : {t : DataType} {v : DataValue} {area : List ℕ} → Suited t v area → is_varlen t ≡ false → length (form_of t v area) ≡ size_of t
length-slot {t} {v} {area} s e = length-stored t v (text_of area v) s.kind (accepted-suits t v area s.holds) ∙ rw e

-- q is the buffer after the store
pub slot-stored : (b bs q : List ℕ) (n at z : ℕ) → length bs ≡ z → at + z ≤ n → n ≤ length b → q ≡ sets b at bs → Holds b (slot_edit at z (some bs) (take n b)) q n
slot-stored b bs q n at z l h k d =
    let m : length (take n b) ≡ n = length-take-le n b k in
    let low : at + length bs ≤ length (take n b) = rw (l, m) h in
    let row : sets (take n b) at bs ≡ splice at (at + z) bs (take n b) = sets-splice (take n b) at bs low ∙ rw l in
    let size : length (splice at (at + z) bs (take n b)) ≡ n = sym (ap length row) ∙ length-sets (take n b) at bs ∙ m in
    let split : sets b at bs ≡ splice at (at + z) bs (take n b) ++ drop n b
    = ap (λ (u : List ℕ). sets u at bs) (sym (take-append-drop n b)) ∙ sets-left (take n b) (drop n b) at bs low ∙ ap (λ (u : List ℕ). u ++ drop n b) row in
    (d ∙ split ∙ rw size, sym size)

-- ---- a bit

-- y is the answer, and x what the callee leaves of the part that starts at the bitmap, at b
pub bit-stored : (v n i : ℕ) (r : List ℕ) (y : Result Unit) (x : List ℕ) {b : ℕ} → b ≡ bitmap_start → i < n
    → table_start n ≤ length r → (y, x) ≡ flag_put v n i (take (length r - b) (drop b r))
    → take b r ++ (x ++ drop (length r - b) (drop b r)) ≡ bit_put v i r
bit-stored v n i r y x e h k f =
    let d = rw e at f in
    let inside : i / 8 < length (drop 4 r) = rw length-drop (omega arith) in
    let put : x ≡ put_bit_at v i (drop 4 r) = ap (λ (p : Result Unit × List ℕ). p.1) (rw (part-all r 4, lt-leb n i h, lt-leb (length (drop 4 r)) (i / 8) inside) at d) in
    rw (e, put, part_none r 4, append-nil)

-- ---- a column

-- a row that stays
pub held_same : (b : List ℕ) (n : ℕ) → n ≤ length b → Holds b (take n b) b n
held_same b n h = let m : length (take n b) ≡ n = length-take-le n b h in (sym (rw m (take-append-drop n b)), sym m)

-- a cell that the column's type has room for, z bytes of it in a Varchar's range
pub record Sized (t : DataType) (z : ℕ) (c : Cell) : Type 0 where
  pub text : is_varlen t ≡ true → length (bytes c) ≡ z
  pub slot : is_varlen t ≡ false → FitsCell (Fixed (size_of t) 1) c

pub sized-null : (t : DataType) → Sized t 0 none
sized-null t = record { text = λ v. refl; slot = λ f. tt }

pub sized-value : {t : DataType} {v : DataValue} {area : List ℕ} → Suited t v area → Sized t (range_of v).length (some (form_of t v area))
sized-value s = record { text = length-text s; slot = length-slot s }

slot-edited : (at z : ℕ) (c : Cell) (r : List ℕ) → FitsCell (Fixed z 1) c → at + z ≤ length r → length (slot_edit at z c r) ≡ length r
slot-edited at z none r f h = refl
slot-edited at z (some b) r f h = same-length-splice at (at + z) b r (rw f) h

-- q is the buffer after the column was set, and m the length of its row
module _ {l : RowLayout} {p : Bool} {b : RowLayout} {t : DataType} {n a e z : ℕ} {buf : List ℕ} (g : Editable l p b t (change n a e z) buf) {c : Cell} (s : Sized t z c) (q : List ℕ) (m : ℕ) (h : Holds buf (column_set l p b t (span a e) c (take n buf)) q m) where
  abbrev row : List ℕ
  row = take n buf

  abbrev edited : List ℕ
  edited = column_set l p b t (span a e) c row

  row-length : length row ≡ n
  row-length = length-take-le n buf g.inside

  -- its row has the bitmap, and fits the buffer
  inside : (table_start l.num_columns ≤ length edited) × (length edited ≤ length buf)
  inside =
      by_cond (λ r. (table_start l.num_columns ≤ length r) × (length r ≤ length buf)) (is_varlen t) (range_edit (offset_table (offset_width l.is_long) (table_start l.num_columns) l.num_varlen_cols) b.num_varlen_cols c (span a e) row) (slot_edit (walked_place l p b t) (size_of t) c row)
      (λ v.
      let r = g.range v in
      let k = r.replaceable in
      let x = length-range_edit (offset_width l.is_long) (table_start l.num_columns) l.num_varlen_cols b.num_varlen_cols c a e row r.ranked r.behind k.range (rw row-length k.within) in
      (omega (arith, x, row-length, s.text v, r.behind, k.range, k.within), omega (arith, x, row-length, s.text v, k.room, k.range, k.within)))
      (λ f.
      let x = slot-edited (walked_place l p b t) (size_of t) c row (s.slot f) (g.reach.slot f) in
      (rw x (omega (arith, g.reach.table)), rw (x, row-length) g.inside))

  lent : take m q ≡ edited
  lent = row_of buf edited q m h.0 (sym h.1)

  pub bit-room : m ≤ length buf
  bit-room = rw h.1 inside.1

  pub bit-part : m ≡ length (take m q)
  bit-part = h.1 ∙ sym (ap length lent)

  pub bit_ready : (b.num_columns < l.num_columns) × (table_start l.num_columns ≤ length (take m q))
  bit_ready = (g.reach.column, rw lent inside.0)

  pub bit-done : (x : List ℕ) → x ≡ bit_put (null_bit c) b.num_columns (take m q) → Holds buf (row_set l p b t (span a e) c row) (x ++ drop m q) m
  bit-done x d =
      let y : x ≡ row_set l p b t (span a e) c row = d ∙ rw lent in
      let k : length (row_set l p b t (span a e) c row) ≡ m = length-bit_edit b.num_columns c edited ∙ sym h.1 in
      (held_again buf edited q m h.0 (sym h.1) x (ap length y ∙ k) ∙ rw y, sym k)
