-- An edit keeps the first four bytes of a row, which are its header, and with them both marks.
use Prim.Native.Nat.{ℕ, ◌+◌, ◌*◌, ◌%◌, ◌≤◌}
use mathlib.Core.Bool.{Bool}
use mathlib.Core.List.{List, ◌++◌}
use mathlib.Core.Option.{none, some}
use mathlib.Core.Path.{◌≡◌, refl, sym, ap, ◌∙◌}
use native.Mathlib.Omega.{arith}
use lib.Dec.{leb}
use lib.ListN.{length, get_or, take, drop, length-take, take-append-drop}
use lib.Seq.{length-take-le, take_at, take-append-le, take-take}
use Rattle.laws.specs.Bytes.{to_table, from_table, splice}
use Rattle.row_format.specs.declared.Shape.{Shape}
use Rattle.row_format.specs.declared.Shape.TheVariants.{Fixed, Varlen}
use Rattle.row_format.specs.Places.{varlens, rank_of, table_start, slot_place}
use Rattle.row_format.specs.Table.{Cell, bytes, range_end}
use Rattle.row_format.specs.Row.{packed_flag, long_flag}
use Rattle.row_format.specs.Header.{varlen_field, is_packed, is_long}
use Rattle.row_format.specs.Edit.{moved_offsets, range_start, slot_edit, varlen_edit, bit_edit, column_edit, edited_row}
use Rattle.row_format.proofs.Header.{sort_of_lem, field_front}

-- ---- two rows with the same first four bytes

field_cut : (r : List ℕ) → 4 ≤ length r → varlen_field r ≡ varlen_field (take 4 r)
field_cut r h = ap varlen_field (sym (take-append-drop 4 r)) ∙ field_front (take 4 r) (drop 4 r) (rw (length-take-le 4 r h) (omega arith))

module _ (r q : List ℕ) (long : 4 ≤ length r) (same : take 4 q ≡ take 4 r) where
  pub same-long : 4 ≤ length q
  same-long =
      let m = rw length-take at (ap length same ∙ length-take-le 4 r long) in
      omega arith

  pub same_field : varlen_field q ≡ varlen_field r
  same_field = field_cut q same-long ∙ ap varlen_field same ∙ sym (field_cut r long)

  pub same_flag : is_packed q ≡ is_packed r
  same_flag = ap (leb packed_flag) same_field

  pub same-sort : is_long q ≡ is_long r
  same-sort = sort_of_lem q same-long ∙ ap (λ (x : ℕ). leb long_flag (x % packed_flag)) same_field ∙ sym (sort_of_lem r long)

-- ---- an edit, of any row: packed or padded, whatever its bytes

-- bytes from a on replaced
front_splice : (a e : ℕ) (new r : List ℕ) → 4 ≤ a → 4 ≤ length r → take 4 (splice a e new r) ≡ take 4 r
front_splice a e new r h long = take-append-le 4 (take a r) (new ++ drop e r) (rw length-take (omega arith)) ∙ take-take 4 a r h

front_slot : (at z : ℕ) (c : Cell) (r : List ℕ) → 4 ≤ at → 4 ≤ length r → take 4 (slot_edit at z c r) ≡ take 4 r
front_slot at z none r h long = refl
front_slot at z (some b) r h long = front_splice at (at + z) b r h long

-- the range of rank k, which starts behind the header
front_varlen : (w t v k : ℕ) (c : Cell) (r : List ℕ) → 4 ≤ t → 4 ≤ range_start w t v k r → 4 ≤ length r → take 4 (varlen_edit w t v k c r) ≡ take 4 r
unfolding varlen_edit
front_varlen w t v k c r table past long =
    let a = range_start w t v k r in
    let e = range_end w t v k r in
    let texts : take 4 (splice a e (bytes c) r) ≡ take 4 r = front_splice a e (bytes c) r past long in
    front_splice t (t + v * w) (to_table w (moved_offsets k c a e (from_table w v (drop t r)))) (splice a e (bytes c) r) table (same-long r (splice a e (bytes c) r) long texts) ∙ texts

front_bit : (i : ℕ) (c : Cell) (r : List ℕ) → 4 ≤ length r → take 4 (bit_edit i c r) ≡ take 4 r
front_bit i c r long = take_at (take 4 r) _ 4 (length-take-le 4 r long)

module _ (w : ℕ) (p : Bool) (ss : List Shape) (i : ℕ) (c : Cell) (r : List ℕ) (long : 4 ≤ length r) (past : get_or ss i Varlen ≡ Varlen → 4 ≤ range_start w (table_start (length ss)) (varlens ss) (rank_of ss i) r) where
  front_column : (s : Shape) → get_or ss i Varlen ≡ s → take 4 (column_edit w p ss i s c r) ≡ take 4 r
  front_column (Fixed z a) e = front_slot (slot_place w p ss i) z c r (omega arith) long
  front_column Varlen e = front_varlen w (table_start (length ss)) (varlens ss) (rank_of ss i) c r (omega arith) (past e) long

  pub edit_front : take 4 (edited_row w p ss i c r) ≡ take 4 r
  unfolding edited_row
  edit_front =
      let new = column_edit w p ss i (get_or ss i Varlen) c r in
      let column = front_column (get_or ss i Varlen) refl in
      front_bit i c new (same-long r new long column) ∙ column
