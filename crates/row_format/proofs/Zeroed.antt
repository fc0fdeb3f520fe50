-- The slots of null fixed columns set to zero: from any row of cells to the row that is built of them.
use Prim.Native.Nat.{ℕ, zero, suc, ◌+◌, ◌<◌}
use mathlib.Core.Path.{◌≡◌, refl, sym, ap, ◌∙◌}
use mathlib.Core.Bool.{true}
use mathlib.Core.List.{List, [], ◌∷◌, ◌++◌, append_assoc}
use mathlib.Core.Option.{none, some}
use native.Mathlib.Nat.{zero-add, add-zero}
use native.Mathlib.Omega.{arith}
use lib.ListN.{length, get_or, take, drop, set, length-append, length-replicate}
use lib.Seq.{take_at, drop_at}
use Rattle.laws.specs.Bytes.{to_table, concat}
use Rattle.laws.specs.Bits.{bit_at}
use Rattle.laws.specs.InnerForall.{Forall₂, nil, cons}
use Rattle.laws.proofs.Bytes.{length-to_table}
use Rattle.row_format.specs.declared.Shape.{Shape}
use Rattle.row_format.specs.declared.Shape.TheVariants.{Fixed, Varlen}
use Rattle.row_format.specs.Places.{varlens, bitmap_start, bitmap_size, fixed_start, minimum}
use Rattle.row_format.specs.Table.{Cell, payloads, offsets, lay}
use Rattle.row_format.specs.Row.{header, null_bit, bitmap, varlen_cells, row_with, slot_of, slots_of, built_row, slot_size}
use Rattle.row_format.specs.Zeroed.{zeroed_slot, zeroed_from, zeroed_row}
use Rattle.row_format.proofs.Table.{length-offsets}
use Rattle.row_format.proofs.Row.{length-header, length_slots, length-varlens, length_front, bit-row, forall_at}
use Rattle.row_format.specs.InnerRow.{FitsCell, FitsSlot}
use Rattle.row_format.specs.InnerEdit.{slot_kept, slots_kept}

-- ---- slots

-- zeros for the nulls among the cells
abbrev pub slots_zeroed : List Shape → List Cell → List (List ℕ) → List (List ℕ)
slots_zeroed [] cs bs = []
slots_zeroed (s ∷ ss) [] bs = []
slots_zeroed (s ∷ ss) (c ∷ cs) [] = []
slots_zeroed (s ∷ ss) (c ∷ cs) (b ∷ bs) = zeroed_slot (null_bit c) (slot_size s) b ∷ slots_zeroed ss cs bs

slot-fits : (s : Shape) (c : Cell) (b : List ℕ) → FitsSlot s b → FitsSlot s (zeroed_slot (null_bit c) (slot_size s) b)
slot-fits s none b r = length-replicate {A = ℕ} (slot_size s) _
slot-fits s (some d) b r = r

pub zeroed_fit : {ss : List Shape} {cs : List Cell} {bs : List (List ℕ)} → Forall₂ FitsCell ss cs → Forall₂ FitsSlot ss bs → Forall₂ FitsSlot ss (slots_zeroed ss cs bs)
zeroed_fit nil nil = nil
zeroed_fit (cons {a = s} {b = c} q f) (cons {b = b} r e) = cons (slot-fits s c b r) (zeroed_fit f e)

-- ---- the row

zeroed-from : {ss : List Shape} {cs : List Cell} {bs : List (List ℕ)} → Forall₂ FitsCell ss cs → Forall₂ FitsSlot ss bs → (bits : List ℕ) (i : ℕ) (rest : List ℕ)
    → ((j : ℕ) → j < length ss → bit_at (i + j) bits ≡ null_bit (get_or cs j (some []))) → zeroed_from bits i ss (concat bs ++ rest) ≡ concat (slots_zeroed ss cs bs) ++ rest
zeroed-from nil nil bits i rest h = refl
zeroed-from (cons {a = s} {b = c} {xs = ss} {ys = cs} q f) (cons {b = b} {ys = bs} r e) bits i rest h =
    let bit : bit_at i bits ≡ null_bit c = rw add-zero at (h 0 (omega arith)) in
    let more : (j : ℕ) → j < length ss → bit_at (suc i + j) bits ≡ null_bit (get_or cs j (some []))
    = λ j l. let k : suc i + j ≡ i + suc j = omega arith in ap (λ (n : ℕ). bit_at n bits) k ∙ h (suc j) (omega arith) in
    rw (bit, append_assoc b, take_at b (concat bs ++ rest) (slot_size s) r, drop_at b (concat bs ++ rest) (slot_size s) r, append_assoc) (ap (λ (l : List ℕ). zeroed_slot (null_bit c) (slot_size s) b ++ l) (zeroed-from f e bits (suc i) rest more))

module _ (w : ℕ) (head : List ℕ) (four : length head ≡ 4) {ss : List Shape} {cs : List Cell} {bs : List (List ℕ)} (cells : Forall₂ FitsCell ss cs) (slots : Forall₂ FitsSlot ss bs) where
  abbrev front : List ℕ
  front = head ++ bitmap (bitmap_size (length ss)) cs

  -- the row, cut at its fixed columns, with the offsets for any slots that fit
  row_cut : (ds : List (List ℕ)) → Forall₂ FitsSlot ss ds → row_with w head ss cs ds ≡ (front ++ to_table w (offsets (minimum w true ss) (varlen_cells ss cs))) ++ (concat ds ++ payloads (varlen_cells ss cs))
  unfolding row_with lay
  row_cut ds fit = rw (length_front w head four cells slots, length-varlens cells, length_slots fit, append_assoc front)

  -- by the row's bits or by the cells, it is the same
  pub zeroed-row : zeroed_row w ss (row_with w head ss cs bs) ≡ row_with w head ss cs (slots_zeroed ss cs bs)
  unfolding zeroed_row
  zeroed-row =
      let low : List ℕ = front ++ to_table w (offsets (minimum w true ss) (varlen_cells ss cs)) in
      let n : length low ≡ fixed_start w (length ss) (varlens ss) = rw (length-append, length_front w head four cells slots, length-to_table, length-offsets, length-varlens cells) in
      let bits : (j : ℕ) → j < length ss → bit_at (0 + j) (drop bitmap_start (row_with w head ss cs bs)) ≡ null_bit (get_or cs j (some [])) = λ j l. rw zero-add (bit-row w head four cells slots j l) in
      let tail : drop (fixed_start w (length ss) (varlens ss)) (row_with w head ss cs bs) ≡ concat bs ++ payloads (varlen_cells ss cs) = rw (row_cut bs slots) (drop_at low _ (fixed_start w (length ss) (varlens ss)) n) in
      let start : take (fixed_start w (length ss) (varlens ss)) (row_with w head ss cs bs) ≡ low = rw (row_cut bs slots) (take_at low _ (fixed_start w (length ss) (varlens ss)) n) in
      rw (start, tail, zeroed-from cells slots (drop bitmap_start (row_with w head ss cs bs)) 0 (payloads (varlen_cells ss cs)) bits) (sym (row_cut (slots_zeroed ss cs bs) (zeroed_fit cells slots)))

-- ---- the row that is built

-- slots that hold what the cells say, whatever they hold of nulls
abbrev pub Agree : List Shape → List Cell → List (List ℕ) → Type 0
Agree ss cs bs = slots_zeroed ss cs bs ≡ slots_of ss cs

pub zeroed-built : (w marks : ℕ) {ss : List Shape} {cs : List Cell} {bs : List (List ℕ)} → Forall₂ FitsCell ss cs → Forall₂ FitsSlot ss bs → Agree ss cs bs → zeroed_row w ss (row_with w (header marks ss) ss cs bs) ≡ built_row w marks ss cs
zeroed-built w marks {ss} {cs} {bs} cells slots e = zeroed-row w (header marks ss) (length-header marks ss) cells slots ∙ rw e

-- the slots that are written for cells agree with them, and those after an edit with the changed cells
slot-written : (s : Shape) (c : Cell) → zeroed_slot (null_bit c) (slot_size s) (slot_of s c) ≡ slot_of s c
slot-written (Fixed z a) none = refl
slot-written (Fixed z a) (some b) = refl
slot-written Varlen none = refl
slot-written Varlen (some b) = refl

pub agree_written : {ss : List Shape} {cs : List Cell} → Forall₂ FitsCell ss cs → Agree ss cs (slots_of ss cs)
agree_written nil = refl
agree_written (cons {a = s} {b = c} r e) = rw (slot-written s c, agree_written e)

pub slots_set : {ss : List Shape} {cs : List Cell} (i : ℕ) (c : Cell) → Forall₂ FitsCell ss cs → slots_of ss (set cs i c) ≡ set (slots_of ss cs) i (slot_of (get_or ss i Varlen) c)
slots_set i c nil = refl
slots_set zero c (cons {a = s} r e) = refl
slots_set (suc i) c (cons {a = s} {b = d} r e) = ap (λ (l : List (List ℕ)). slot_of s d ∷ l) (slots_set i c e)

zeroed-set : {ss : List Shape} {cs : List Cell} {bs : List (List ℕ)} (i : ℕ) (c : Cell) (x : List ℕ) → Forall₂ FitsCell ss cs → Forall₂ FitsSlot ss bs
    → slots_zeroed ss (set cs i c) (set bs i x) ≡ set (slots_zeroed ss cs bs) i (zeroed_slot (null_bit c) (slot_size (get_or ss i Varlen)) x)
zeroed-set i c x nil nil = refl
zeroed-set zero c x (cons q f) (cons r e) = refl
zeroed-set (suc i) c x (cons {a = s} {b = d} q f) (cons {b = b} r e) = ap (λ (l : List (List ℕ)). zeroed_slot (null_bit d) (slot_size s) b ∷ l) (zeroed-set i c x f e)

pub slot_kept_lem : (s : Shape) (c : Cell) (b : List ℕ) → FitsSlot s b → zeroed_slot (null_bit c) (slot_size s) (slot_kept s c b) ≡ slot_of s c
slot_kept_lem (Fixed z a) none b r = refl
slot_kept_lem (Fixed z a) (some d) b r = refl
slot_kept_lem Varlen none b r = refl
slot_kept_lem Varlen (some d) [] r = refl
slot_kept_lem Varlen (some d) (x ∷ b) r = absurd (omega arith)

pub agree_kept : {ss : List Shape} {cs : List Cell} {bs : List (List ℕ)} (i : ℕ) (c : Cell) → Forall₂ FitsCell ss cs → Forall₂ FitsSlot ss bs → Agree ss cs bs → Agree ss (set cs i c) (slots_kept ss i c bs)
agree_kept {ss} {cs} {bs} i c cells slots e =
    zeroed-set i c (slot_kept (get_or ss i Varlen) c (get_or bs i [])) cells slots ∙ rw (e, slot_kept_lem (get_or ss i Varlen) c (get_or bs i []) (forall_at i slots)) (sym (slots_set i c cells))
