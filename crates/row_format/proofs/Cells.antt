-- The cells of a row, read back: rows that are built of different cells are different.
use Prim.Native.Nat.{ℕ, zero, suc, ◌+◌, ◌^◌, ◌<◌}
use mathlib.Core.Path.{◌≡◌, refl, sym, ap, ◌∙◌}
use mathlib.Core.Bool.{true}
use mathlib.Core.List.{List, [], ◌∷◌}
use mathlib.Core.Option.{none, some}
use native.Mathlib.Omega.{arith}
use lib.ListN.{length, get_or, take, drop}
use lib.Seq.{ext_get_or}
use Rattle.laws.specs.Bits.{bit_at}
use Rattle.laws.specs.InnerForall.{Forall₂, nil, cons}
use Rattle.laws.proofs.Forall.{forall_length}
use Rattle.row_format.specs.declared.Shape.{Shape}
use Rattle.row_format.specs.declared.Shape.TheVariants.{Fixed, Varlen}
use Rattle.row_format.specs.Places.{varlens, rank_of, slot_start, bitmap_start, table_start, fixed_start}
use Rattle.row_format.specs.Table.{Cell}
use Rattle.row_format.specs.Row.{header, null_bit, row_with, slot_of, slots_of, built_row, slot_size}
use Rattle.row_format.specs.Zeroed.{zeroed_slot}
use Rattle.row_format.proofs.Row.{length-header, slots_fit, bit-row, slot_row, range-row}
use Rattle.row_format.proofs.Zeroed.{slots_zeroed, Agree, agree_written}
use Rattle.row_format.specs.InnerTable.{range_bytes}
use Rattle.row_format.specs.InnerRow.{FitsCell, FitsSlot}

-- the cell of column i, by the row's bit, slot and range
abbrev pub unless_null : ℕ → List ℕ → Cell
unless_null zero b = some b
unless_null (suc bit) b = none

abbrev pub column_bytes : ℕ → List Shape → ℕ → Shape → List ℕ → List ℕ
column_bytes w ss i (Fixed z a) r = take z (drop (fixed_start w (length ss) (varlens ss) + slot_start true ss i) r)
column_bytes w ss i Varlen r = range_bytes w (table_start (length ss)) (varlens ss) (rank_of ss i) r

abbrev pub cell_at : ℕ → List Shape → ℕ → List ℕ → Cell
cell_at w ss i r = unless_null (bit_at i (drop bitmap_start r)) (column_bytes w ss i (get_or ss i Varlen) r)

-- slots that agree with the cells, at a column
zeroed_at : {ss : List Shape} {cs : List Cell} {bs : List (List ℕ)} (i : ℕ) → Forall₂ FitsCell ss cs → Forall₂ FitsSlot ss bs → i < length ss
    → get_or (slots_zeroed ss cs bs) i [] ≡ zeroed_slot (null_bit (get_or cs i none)) (slot_size (get_or ss i Varlen)) (get_or bs i [])
zeroed_at i nil nil h = absurd (omega arith)
zeroed_at zero (cons q f) (cons r e) h = refl
zeroed_at (suc i) (cons q f) (cons r e) h = zeroed_at i f e (omega arith)

pub slots_at : {ss : List Shape} {cs : List Cell} (i : ℕ) → Forall₂ FitsCell ss cs → i < length ss → get_or (slots_of ss cs) i [] ≡ slot_of (get_or ss i Varlen) (get_or cs i none)
slots_at i nil h = absurd (omega arith)
slots_at zero (cons q f) h = refl
slots_at (suc i) (cons q f) h = slots_at i f (omega arith)

get_d_any : (l : List Cell) (i : ℕ) (c d : Cell) → i < length l → get_or l i c ≡ get_or l i d
get_d_any [] i c d h = absurd (omega arith)
get_d_any (x ∷ l) zero c d h = refl
get_d_any (x ∷ l) (suc i) c d h = get_d_any l i c d (omega arith)

module _ (w : ℕ) (head : List ℕ) (four : length head ≡ 4) {ss : List Shape} {cs : List Cell} {bs : List (List ℕ)} (cells : Forall₂ FitsCell ss cs) (slots : Forall₂ FitsSlot ss bs) (agree : Agree ss cs bs) (i : ℕ) (h : i < length ss) (fits : length (row_with w head ss cs bs) < 256 ^ w) where
  slot-some : (z a : ℕ) (b : List ℕ) → get_or ss i Varlen ≡ Fixed z a → get_or cs i none ≡ some b → get_or bs i [] ≡ b
  slot-some z a b s e = rw (e, s) at (sym (zeroed_at i cells slots h) ∙ ap (λ (l : List (List ℕ)). get_or l i []) agree ∙ slots_at i cells h)

  bytes_at : (s : Shape) → get_or ss i Varlen ≡ s → (b : List ℕ) → get_or cs i none ≡ some b → column_bytes w ss i s (row_with w head ss cs bs) ≡ b
  bytes_at (Fixed z a) s b e = rw (ap slot_size s) at (slot_row w head four cells slots i h) ∙ slot-some z a b s e
  bytes_at Varlen s b e = range-row w head four cells slots i h s fits b e

  cell_at_lem : (c : Cell) → get_or cs i none ≡ c → unless_null (null_bit c) (column_bytes w ss i (get_or ss i Varlen) (row_with w head ss cs bs)) ≡ c
  cell_at_lem none e = refl
  cell_at_lem (some b) e = ap some (bytes_at (get_or ss i Varlen) refl b e)

  pub cell_row : cell_at w ss i (row_with w head ss cs bs) ≡ get_or cs i none
  cell_row = rw (bit-row w head four cells slots i h, get_d_any cs i (some []) none (rw (forall_length cells) h)) (cell_at_lem (get_or cs i none) refl)

module _ (w marks : ℕ) {ss : List Shape} where
  pub cell_built : {cs : List Cell} → Forall₂ FitsCell ss cs → (i : ℕ) → i < length ss → length (built_row w marks ss cs) < 256 ^ w → cell_at w ss i (built_row w marks ss cs) ≡ get_or cs i none
  cell_built cells i h fits = cell_row w (header marks ss) (length-header marks ss) cells (slots_fit cells) (agree_written cells) i h fits

  pub built_inj : {cs ds : List Cell} → Forall₂ FitsCell ss cs → Forall₂ FitsCell ss ds → length (built_row w marks ss cs) < 256 ^ w → built_row w marks ss cs ≡ built_row w marks ss ds → cs ≡ ds
  built_inj {cs} {ds} e f fits q =
      let l : length cs ≡ length ss = forall_length e in
      let m : length ds ≡ length ss = forall_length f in
      ext_get_or none cs ds (l ∙ sym m) (λ i h. let k : i < length ss = omega arith in sym (cell_built e i k fits) ∙ ap (cell_at w ss i) q ∙ cell_built f i k (rw q at fits))
