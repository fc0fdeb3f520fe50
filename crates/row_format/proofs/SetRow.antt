-- A column of a packed row of cells set: the row of the changed cells and slots.
use Prim.Native.Nat.{ℕ, zero, suc, ◌+◌, ◌^◌, ◌≤◌, ◌<◌}
use mathlib.Core.Path.{◌≡◌, refl, ap, ◌∙◌}
use mathlib.Core.Bool.{true}
use mathlib.Core.List.{List, [], ◌∷◌}
use mathlib.Core.Option.{none, some}
use native.Mathlib.Omega.{arith}
use lib.ListN.{length, get_or, take, drop, set}
use lib.Seq.{set_split, set-get_or}
use Rattle.laws.specs.Bytes.{concat}
use Rattle.laws.specs.Bits.{put_bit_at}
use Rattle.laws.specs.InnerForall.{Forall₂, nil, cons}
use Rattle.laws.proofs.Bytes.{splice_at}
use Rattle.laws.proofs.Forall.{forall_length}
use Rattle.row_format.specs.declared.Shape.{Shape}
use Rattle.row_format.specs.declared.Shape.TheVariants.{Fixed, Varlen}
use Rattle.row_format.specs.Places.{rank_of, slot_start, bitmap_size}
use Rattle.row_format.specs.Table.{Cell}
use Rattle.row_format.specs.Row.{bitmap, varlen_cells, null_bit, row_with, slot_size}
use Rattle.row_format.specs.Edit.{slot_edit, edited_row}
use Rattle.row_format.proofs.Places.{varlens-cons, packed-inside}
use Rattle.row_format.proofs.Bitmap.{length-bitmap, put-bitmap}
use Rattle.row_format.proofs.Row.{concat-append, concat_at, forall_take, forall_at, length_slots, length-varlens, packed_start}
use Rattle.row_format.proofs.Edit.{edit_fixed, edit_varlen}
use Rattle.row_format.specs.InnerRow.{FitsCell, FitsSlot}
use Rattle.row_format.specs.InnerEdit.{slot_kept, slots_kept}

-- ---- one cell, one slot

-- the cells of the Varchars
pub varlen_set : {ss : List Shape} {cs : List Cell} (i : ℕ) (c : Cell) → Forall₂ FitsCell ss cs → i < length ss → get_or ss i Varlen ≡ Varlen → varlen_cells ss (set cs i c) ≡ set (varlen_cells ss cs) (rank_of ss i) c
varlen_set i c nil h v = absurd (omega arith)
varlen_set zero c (cons {a = Fixed z a} r e) h v = let q : ◌≡◌ {A = ℕ} 0 1 = cc in absurd (omega arith)
varlen_set zero c (cons {a = Varlen} r e) h v = refl
varlen_set (suc i) c (cons {a = Fixed z a} r e) h v = varlen_set i c e (omega arith) v
varlen_set (suc i) c (cons {a = Varlen} {b = d} {xs = ss} {ys = cs} r e) h v =
    let k : rank_of (Varlen ∷ ss) (suc i) ≡ suc (rank_of ss i) = varlens-cons Varlen (take i ss) ∙ omega arith in
    rw (k, varlen_set i c e (omega arith) v)

fixed-set : {ss : List Shape} {cs : List Cell} (i z a : ℕ) (c : Cell) → Forall₂ FitsCell ss cs → get_or ss i Varlen ≡ Fixed z a → varlen_cells ss (set cs i c) ≡ varlen_cells ss cs
fixed-set i z a c nil v = refl
fixed-set zero z a c (cons {a = Fixed y b} r e) v = refl
fixed-set zero z a c (cons {a = Varlen} r e) v = let q : ◌≡◌ {A = ℕ} 0 1 = cc in absurd (omega arith)
fixed-set (suc i) z a c (cons {a = Fixed y b} r e) v = fixed-set i z a c e v
fixed-set (suc i) z a c (cons {a = Varlen} {b = d} r e) v = ap (λ (l : List Cell). d ∷ l) (fixed-set i z a c e v)

-- what fits goes on fitting
pub cells_fit : {ss : List Shape} {cs : List Cell} (i : ℕ) (c : Cell) → Forall₂ FitsCell ss cs → FitsCell (get_or ss i Varlen) c → Forall₂ FitsCell ss (set cs i c)
cells_fit i c nil q = nil
cells_fit zero c (cons r e) q = cons q e
cells_fit (suc i) c (cons r e) q = cons r (cells_fit i c e q)

slot-fits : (s : Shape) (c : Cell) (b : List ℕ) → FitsCell s c → FitsSlot s b → FitsSlot s (slot_kept s c b)
slot-fits (Fixed z a) none b q r = r
slot-fits (Fixed z a) (some d) b q r = q
slot-fits Varlen c b q r = r

pub kept_fit : {ss : List Shape} {bs : List (List ℕ)} (i : ℕ) (c : Cell) → Forall₂ FitsSlot ss bs → FitsCell (get_or ss i Varlen) c → Forall₂ FitsSlot ss (slots_kept ss i c bs)
kept_fit i c nil q = nil
kept_fit zero c (cons {a = s} {b = b} r e) q = cons (slot-fits s c b q r) e
kept_fit (suc i) c (cons r e) q = cons r (kept_fit i c e q)

-- slots that stand end to end
slots_edit : {ss : List Shape} {bs : List (List ℕ)} (i z a : ℕ) (c : Cell) → Forall₂ FitsSlot ss bs → i < length ss → get_or ss i Varlen ≡ Fixed z a → slot_edit (slot_start true ss i) z c (concat bs) ≡ concat (set bs i (slot_kept (Fixed z a) c (get_or bs i [])))
slots_edit i z a none slots h s = rw set-get_or
slots_edit {ss} {bs} i z a (some b) slots h s =
    let l : i < length bs = rw (forall_length slots) h in
    let low : List ℕ = concat (take i bs) in
    let high : List ℕ = concat (drop (suc i) bs) in
    let at : length low ≡ slot_start true ss i = rw (packed_start, length_slots (forall_take i slots)) in
    let n : length (get_or bs i []) ≡ z = forall_at i slots ∙ rw s in
    rw (set_split bs i b l, concat-append (take i bs) (b ∷ drop (suc i) bs)) (ap (slot_edit (slot_start true ss i) z (some b)) (concat_at bs i l) ∙ splice_at low (get_or bs i []) high b (slot_start true ss i) (slot_start true ss i + z) at (rw (at, n)))

-- the bits
pub bits_set : {ss : List Shape} {cs : List Cell} (i : ℕ) (c : Cell) → Forall₂ FitsCell ss cs → i < length ss → put_bit_at (null_bit c) i (bitmap (bitmap_size (length ss)) cs) ≡ bitmap (bitmap_size (length ss)) (set cs i c)
bits_set {ss} {cs} i c cells h = put-bitmap (bitmap_size (length ss)) cs i c (rw (forall_length cells) h)

-- ---- the row

module _ (w : ℕ) (head : List ℕ) (four : length head ≡ 4) {ss : List Shape} {cs : List Cell} {bs : List (List ℕ)} (cells : Forall₂ FitsCell ss cs) (slots : Forall₂ FitsSlot ss bs) (i : ℕ) (h : i < length ss) (c : Cell) where
  abbrev bits : List ℕ
  bits = bitmap (bitmap_size (length ss)) cs

  -- a fixed column, whatever the row's length
  pub set-fixed : (z a : ℕ) → get_or ss i Varlen ≡ Fixed z a → FitsCell (Fixed z a) c → edited_row w true ss i c (row_with w head ss cs bs) ≡ row_with w head ss (set cs i c) (set bs i (slot_kept (Fixed z a) c (get_or bs i [])))
  unfolding row_with
  set-fixed z a s q =
      let inside : slot_start true ss i + z ≤ length (concat bs) = rw (length_slots slots) (rw (ap slot_size s) at (packed-inside ss i h)) in
      edit_fixed w true ss i h head bits (concat bs) (varlen_cells ss cs) four (length-bitmap (bitmap_size (length ss)) cs) (length-varlens cells) c z a s q inside
      ∙ rw (bits_set i c cells h, slots_edit i z a c slots h s, fixed-set i z a c cells s)

  -- a Varchar
  pub set_varlen : get_or ss i Varlen ≡ Varlen → length (row_with w head ss cs bs) < 256 ^ w → edited_row w true ss i c (row_with w head ss cs bs) ≡ row_with w head ss (set cs i c) bs
  unfolding row_with
  set_varlen s fits =
      edit_varlen w true ss i h head bits (concat bs) (varlen_cells ss cs) four (length-bitmap (bitmap_size (length ss)) cs) (length-varlens cells) c s fits ∙ rw (bits_set i c cells h, varlen_set i c cells h s)

  -- the edit of column i is the row of the changed cells and slots
  pub set-row : FitsCell (get_or ss i Varlen) c → length (row_with w head ss cs bs) < 256 ^ w → edited_row w true ss i c (row_with w head ss cs bs) ≡ row_with w head ss (set cs i c) (slots_kept ss i c bs)
  set-row q fits = by_shape (get_or ss i Varlen) refl q
    where
      by_shape : (s : Shape) → get_or ss i Varlen ≡ s → FitsCell s c → edited_row w true ss i c (row_with w head ss cs bs) ≡ row_with w head ss (set cs i c) (slots_kept ss i c bs)
      by_shape (Fixed z a) s k = rw s (set-fixed z a s k)
      by_shape Varlen s k = rw (s, set-get_or) (set_varlen s fits)
