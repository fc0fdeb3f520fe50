-- A packed row of cells: its length, and each column read back from where the layout says it stands.
use Prim.Native.Nat.{ℕ, zero, suc, ◌+◌, ◌*◌, ◌/◌, ◌^◌, ◌<◌}
use mathlib.Core.Path.{◌≡◌, refl, ap, ◌∙◌}
use mathlib.Core.Bool.{true}
use mathlib.Core.List.{List, [], ◌∷◌, ◌++◌, append_assoc}
use mathlib.Core.Option.{none, some}
use native.Mathlib.Omega.{arith}
use lib.ListN.{length, get_or, take, drop, length-append, length-drop, length-replicate, get_or-append}
use lib.Seq.{drop-drop, take_at, drop_at, drop-append_seam, take-append-le, drop-append-le, split_at}
use Rattle.laws.specs.Bytes.{from_le, concat, entry_at}
use Rattle.laws.specs.Bits.{bit_at}
use Rattle.laws.specs.InnerForall.{Forall₂, nil, cons}
use Rattle.laws.proofs.Bytes.{from_to}
use Rattle.laws.proofs.Forall.{forall_length}
use Rattle.row_format.specs.declared.Shape.{Shape}
use Rattle.row_format.specs.declared.Shape.TheVariants.{Fixed, Varlen}
use Rattle.row_format.specs.Places.{varlens, fixed_size, rank_of, slot_after, slot_start, bitmap_start, bitmap_size, table_start, fixed_start, minimum}
use Rattle.row_format.specs.Table.{Cell, bytes, payloads, offset, lay, range_end}
use Rattle.row_format.specs.Row.{header, null_bit, bitmap, varlen_cells, row_with, slots_of, slot_size}
use Rattle.row_format.specs.Header.{column_count, varlen_field}
use Rattle.row_format.proofs.Places.{varlens-cons, packed-cons}
use Rattle.row_format.proofs.Table.{length-lay, past-table, entry_lay, end-lay, range-lay}
use Rattle.row_format.proofs.Bitmap.{length-bitmap, bitmap-bit}
use Rattle.row_format.specs.InnerTable.{range_bytes}
use Rattle.row_format.specs.InnerRow.{FitsCell, FitsSlot}

-- ---- the header

pub length-header : (marks : ℕ) (ss : List Shape) → length (header marks ss) ≡ 4
unfolding header
length-header marks ss = refl

pub header-columns : (marks : ℕ) (ss : List Shape) → length ss < 65536 → from_le (take 2 (header marks ss)) ≡ length ss
unfolding header
header-columns marks ss h = from_to 2 (length ss) h

pub header-varlens : (marks : ℕ) (ss : List Shape) → varlens ss + marks < 65536 → from_le (take 2 (drop 2 (header marks ss))) ≡ varlens ss + marks
unfolding header
header-varlens marks ss h = from_to 2 (varlens ss + marks) h

-- ---- slots end to end

pub concat-append : (xs ys : List (List ℕ)) → concat (xs ++ ys) ≡ concat xs ++ concat ys
concat-append [] ys = refl
concat-append (x ∷ xs) ys = rw (concat-append xs ys, append_assoc)

pub concat_at : (xs : List (List ℕ)) (i : ℕ) → i < length xs → concat xs ≡ concat (take i xs) ++ (get_or xs i [] ++ concat (drop (suc i) xs))
concat_at xs i h = ap concat (split_at xs i [] h) ∙ concat-append (take i xs) (get_or xs i [] ∷ drop (suc i) xs)

pub length_slots : {ss : List Shape} {bs : List (List ℕ)} → Forall₂ FitsSlot ss bs → length (concat bs) ≡ fixed_size true ss
length_slots nil = refl
length_slots (cons {a = s} {xs = ss} r e) = rw (length-append, length_slots e, r, packed-cons s ss)

pub forall_take : {ss : List Shape} {bs : List (List ℕ)} (i : ℕ) → Forall₂ FitsSlot ss bs → Forall₂ FitsSlot (take i ss) (take i bs)
forall_take zero e = nil
forall_take (suc i) nil = nil
forall_take (suc i) (cons r e) = cons r (forall_take i e)

pub forall_at : {ss : List Shape} {bs : List (List ℕ)} (i : ℕ) → Forall₂ FitsSlot ss bs → length (get_or bs i []) ≡ slot_size (get_or ss i Varlen)
forall_at i nil = refl
forall_at zero (cons r e) = r
forall_at (suc i) (cons r e) = forall_at i e

pub packed_start : (s : Shape) (at : ℕ) → slot_after true s at ≡ at
packed_start (Fixed z a) at = refl
packed_start Varlen at = refl

-- ---- the cells of Varchars

pub length-varlens : {ss : List Shape} {cs : List Cell} → Forall₂ FitsCell ss cs → length (varlen_cells ss cs) ≡ varlens ss
length-varlens nil = refl
length-varlens (cons {a = Fixed z a} {xs = ss} r e) = length-varlens e
length-varlens (cons {a = Varlen} {xs = ss} r e) = rw (varlens-cons Varlen ss) (omega (arith, length-varlens e))

pub record OfRank (ss : List Shape) (cs : List Cell) (i : ℕ) : Type 0 where
  pub inside : rank_of ss i < length (varlen_cells ss cs)
  pub cell : get_or (varlen_cells ss cs) (rank_of ss i) none ≡ get_or cs i none

pub of_rank : {ss : List Shape} {cs : List Cell} (i : ℕ) → Forall₂ FitsCell ss cs → i < length ss → get_or ss i Varlen ≡ Varlen → OfRank ss cs i
of_rank i nil h v = absurd (omega arith)
of_rank zero (cons {a = Fixed z a} r e) h v = let q : ◌≡◌ {A = ℕ} 0 1 = cc in absurd (omega arith)
of_rank zero (cons {a = Varlen} r e) h v = record { inside = omega arith; cell = refl }
of_rank (suc i) (cons {a = Fixed z a} r e) h v = let o = of_rank i e (omega arith) v in record { inside = o.inside; cell = o.cell }
of_rank (suc i) (cons {a = Varlen} {b = c} {xs = ss} {ys = cs} r e) h v =
    let o = of_rank i e (omega arith) v in
    let k : rank_of (Varlen ∷ ss) (suc i) ≡ suc (rank_of ss i) = varlens-cons Varlen (take i ss) ∙ omega arith in
    record { inside = rw k (omega (arith, o.inside)); cell = rw k o.cell }

-- ---- the row

module _ (w : ℕ) (h : List ℕ) (four : length h ≡ 4) {ss : List Shape} {cs : List Cell} {bs : List (List ℕ)} (cells : Forall₂ FitsCell ss cs) (slots : Forall₂ FitsSlot ss bs) where
  abbrev n : ℕ
  n = length ss

  abbrev front : List ℕ
  front = h ++ bitmap (bitmap_size n) cs

  pub length_front : length front ≡ table_start n
  length_front = rw (length-append, four, length-bitmap)

  -- 01: the minimum and the payloads of the Varchars that are not null
  pub length-row : length (row_with w h ss cs bs) ≡ minimum w true ss + length (payloads (varlen_cells ss cs))
  unfolding row_with
  length-row = rw (length-lay, length_front, length-varlens cells, length_slots slots)

  -- the header stands in front
  pub count-row : column_count (row_with w h ss cs bs) ≡ column_count h
  unfolding row_with lay
  count-row = rw (append_assoc h) (ap from_le (take-append-le 2 h _ (omega (arith, four))))

  pub field_row : varlen_field (row_with w h ss cs bs) ≡ varlen_field h
  unfolding row_with lay
  field_row = rw (append_assoc h) (ap from_le (ap (take 2) (drop-append-le 2 h _ (omega (arith, four))) ∙ take-append-le 2 (drop 2 h) _ (rw (length-drop, four) (omega arith))))

  -- bit i of the bitmap says whether column i is null; those past the last column are 0
  pub bits_row : (i : ℕ) → i < bitmap_size n * 8 → bit_at i (drop bitmap_start (row_with w h ss cs bs)) ≡ null_bit (get_or cs i (some []))
  unfolding row_with lay
  bits_row i k =
      let m : i / 8 < length (bitmap (bitmap_size n) cs) = rw length-bitmap (omega arith) in
      rw (append_assoc h, drop_at h _ 4 four, get_or-append) (bitmap-bit (bitmap_size n) cs i (omega arith))

  pub bit-row : (i : ℕ) → i < n → bit_at i (drop bitmap_start (row_with w h ss cs bs)) ≡ null_bit (get_or cs i (some []))
  bit-row i k = bits_row i (omega arith)

  -- the slot of column i
  pub slot_row : (i : ℕ) → i < n → take (slot_size (get_or ss i Varlen)) (drop (fixed_start w n (varlens ss) + slot_start true ss i) (row_with w h ss cs bs)) ≡ get_or bs i []
  unfolding row_with
  slot_row i k =
      let at : fixed_start w n (varlens ss) + slot_start true ss i ≡ length front + length (varlen_cells ss cs) * w + length (concat (take i bs))
      = rw (length_front, length-varlens cells, packed_start, length_slots (forall_take i slots)) in
      rw (at, ← drop-drop, past-table, concat_at bs i (rw (forall_length slots) k), append_assoc, drop-append_seam, append_assoc)
      (take_at (get_or bs i []) _ (slot_size (get_or ss i Varlen)) (forall_at i slots))

  -- where the payload of column i stands
  abbrev pub payload_at : ℕ → ℕ
  payload_at i = minimum w true ss + length (payloads (take (rank_of ss i) (varlen_cells ss cs)))

  -- a Varchar, where the row's length fits an offset: its entry is 0 if it is null, else where its payload stands; its range ends where its payload ends, and holds it
  module _ (i : ℕ) (k : i < n) (v : get_or ss i Varlen ≡ Varlen) (fits : length (row_with w h ss cs bs) < 256 ^ w) where
    pub entry_row : entry_at w (table_start n) (rank_of ss i) (row_with w h ss cs bs) ≡ offset (get_or cs i none) (payload_at i)
    unfolding row_with
    entry_row =
        let o = of_rank i cells k v in
        rw (← length_front, entry_lay w front (concat bs) (omega (arith, length_front)) (varlen_cells ss cs) (rank_of ss i) o.inside fits, o.cell, length-varlens cells, length_slots slots)

    pub end_row : range_end w (table_start n) (varlens ss) (rank_of ss i) (row_with w h ss cs bs) ≡ payload_at i + length (bytes (get_or cs i none))
    unfolding row_with
    end_row =
        let o = of_rank i cells k v in
        rw (← length_front, ← length-varlens cells, ← length_slots slots, ← o.cell) (end-lay w front (concat bs) (omega (arith, length_front)) (varlen_cells ss cs) (rank_of ss i) o.inside fits)

    pub range-row : (b : List ℕ) → get_or cs i none ≡ some b → range_bytes w (table_start n) (varlens ss) (rank_of ss i) (row_with w h ss cs bs) ≡ b
    unfolding row_with
    range-row b e =
        let o = of_rank i cells k v in
        rw (← length_front, ← length-varlens cells) (range-lay w front (concat bs) (omega (arith, length_front)) (varlen_cells ss cs) (rank_of ss i) b o.inside (o.cell ∙ e) fits)

-- ---- the row that is built

pub slots_fit : {ss : List Shape} {cs : List Cell} → Forall₂ FitsCell ss cs → Forall₂ FitsSlot ss (slots_of ss cs)
slots_fit nil = nil
slots_fit (cons {a = Fixed z a} {b = none} r e) = cons (length-replicate {A = ℕ} z 0) (slots_fit e)
slots_fit (cons {a = Fixed z a} {b = some b} r e) = cons r (slots_fit e)
slots_fit (cons {a = Varlen} r e) = cons refl (slots_fit e)
