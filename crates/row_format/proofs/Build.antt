-- A row that is built column by column, in a longer buffer: each step is a few stores.
use Prim.Native.Nat.{ℕ, zero, suc, ◌+◌, ◌*◌, ◌/◌, ◌≤◌, ◌<◌}
use mathlib.Core.Path.{◌≡◌, refl, sym, ap, ◌∙◌}
use mathlib.Core.Bool.{true}
use mathlib.Core.List.{List, [], ◌∷◌, ◌++◌, append_assoc, append-nil}
use mathlib.Core.Option.{none, some}
use native.Mathlib.Nat.{le_refl, le_trans, mul-le-mul_right}
use native.Mathlib.Numerals.{one-add}
use native.Mathlib.Omega.{arith}
use lib.ListN.{length, get_or, take, drop, set, replicate, length-append, length-drop, length-replicate, take-append-drop, get_or-append}
use lib.Seq.{sets, set_at, length-sets, length-take-le, drop-length, drop-drop, set-get_or, take-append-le, drop-append-le, set-append_left}
use Rattle.laws.specs.Bytes.{to_le, to_table, concat}
use Rattle.laws.specs.InnerForall.{Forall₂, nil, cons}
use Rattle.laws.proofs.Bytes.{length-to_le, length-to_table, to_table-append, sets_at}
use Rattle.laws.proofs.Forall.{forall_length, forall_get}
use Rattle.laws.proofs.Stores.{sets-splice, sets-left, sets_end, sets-start}
use Rattle.row_format.specs.declared.Shape.{Shape}
use Rattle.row_format.specs.declared.Shape.TheVariants.{Fixed, Varlen}
use Rattle.row_format.specs.Places.{varlens, rank_of, slot_start, bitmap_start, bitmap_size, table_start, fixed_start}
use Rattle.row_format.specs.Table.{Cell, bytes, payloads, offset, offsets, lay}
use Rattle.row_format.specs.Row.{bitmap, varlen_cells, row_with, header, built_row, slots_of, slot_size}
use Rattle.row_format.specs.Edit.{bit_edit}
use Rattle.row_format.proofs.Bitmap.{length-bitmap}
use Rattle.row_format.proofs.Row.{length-header, length-row, slots_fit, length_front, forall_at, of_rank}
use Rattle.row_format.proofs.Places.{varlens-cons, rank-inside, packed-inside}
use Rattle.row_format.proofs.Fresh.{offsets-nulls, payloads-nulls, varlens-nulls, null-fits}
use Rattle.row_format.proofs.Zeroed.{slots_set, slot_kept_lem}
use Rattle.row_format.proofs.Edit.{bit-lay, edited_shape, length-bit_edit}
use Rattle.row_format.proofs.SetRow.{varlen_set, bits_set, set-fixed}
use Rattle.row_format.proofs.Table.{payloads-append, length-offsets, offsets-append, length-lay}
use Rattle.row_format.specs.InnerRow.{FitsCell, FitsSlot}
use Rattle.row_format.specs.InnerEdit.{slots_kept}

-- ---- a Varchar after which all are null

-- a row whose last Varchars, after the ranks of us and one more, are null
module _ (w : ℕ) (front region : List ℕ) (us : List Cell) (m : ℕ) where
  abbrev row : Cell → List ℕ
  row c = lay w front region (us ++ c ∷ replicate m none)

  abbrev bottom : ℕ
  bottom = length front + (length us + suc m) * w + length region

  abbrev head : List ℕ
  head = front ++ to_table w (offsets bottom us)

  abbrev rest : List ℕ
  rest = to_table w (replicate m 0) ++ (region ++ payloads us)

  row_parts : (c : Cell) → row c ≡ head ++ (to_le w (offset c (bottom + length (payloads us))) ++ (rest ++ bytes c))
  unfolding lay
  row_parts c = rw (length-append, length-replicate, offsets-append, payloads-append, offsets-nulls, payloads-nulls, to_table-append) (simp (append_assoc, append-nil))

  -- the null before them given b: its offset is the row's end, and b stands there
  null-given : (n : ℕ) (b : List ℕ) → length (row none) ≡ n → sets (row none) (length front + length us * w) (to_le w n) ++ b ≡ row (some b)
  null-given n b l =
      let at : length head ≡ length front + length us * w = rw (length-append, length-to_table, length-offsets) in
      let e : bottom + length (payloads us) ≡ n = rw (length-lay, length-append, length-replicate, payloads-append, payloads-nulls, append-nil) at l in
      rw (row_parts none, row_parts (some b), ← e, append-nil) (ap (λ (x : List ℕ). x ++ b) (sets_at head (to_le w 0) rest (to_le w (bottom + length (payloads us))) (length front + length us * w) at (simp length-to_le)) ∙ simp append_assoc)

-- the same at a rank k from which on all cells are null
lay-next : (w : ℕ) (front region : List ℕ) (cs : List Cell) (k m n : ℕ) (b : List ℕ) → k ≤ length cs → drop k cs ≡ replicate (suc m) none → length (lay w front region cs) ≡ n
    → sets (lay w front region cs) (length front + k * w) (to_le w n) ++ b ≡ lay w front region (set cs k (some b))
lay-next w front region cs k m n b h nulls l =
    let us : List Cell = take k cs in
    let u : length us ≡ k = length-take-le k cs h in
    let cut : cs ≡ us ++ none ∷ replicate m none = sym (take-append-drop k cs) ∙ rw nulls in
    let new : set cs k (some b) ≡ us ++ some b ∷ replicate m none = ap (λ (l : List Cell). set l k (some b)) cut ∙ set_at us none (replicate m none) (some b) k u in
    rw new (ap (λ (l : List Cell). sets (lay w front region l) (length front + k * w) (to_le w n) ++ b) cut ∙ rw u at (null-given w front region us m n b (ap (λ (l : List Cell). length (lay w front region l)) (sym cut) ∙ l)))

-- ---- a row in front of other bytes

-- a bit of it
bit-left : (i : ℕ) (c : Cell) (r rest : List ℕ) → bitmap_start + i / 8 < length r → bit_edit i c (r ++ rest) ≡ bit_edit i c r ++ rest
bit-left i c r rest h =
    let n : 4 ≤ length r = omega arith in
    let m : i / 8 < length (drop 4 r) = rw length-drop (omega arith) in
    rw (take-append-le 4 r rest n, drop-append-le 4 r rest n, get_or-append, set-append_left, append_assoc)

module _ (w : ℕ) (head : List ℕ) (four : length head ≡ 4) {ss : List Shape} {cs : List Cell} {bs : List (List ℕ)} (cells : Forall₂ FitsCell ss cs) (slots : Forall₂ FitsSlot ss bs) (i : ℕ) (h : i < length ss) (b rest : List ℕ) where
  abbrev before : List ℕ
  before = row_with w head ss cs bs

  bit-inside : bitmap_start + i / 8 < length before
  bit-inside = rw (length-row w head four cells slots) (omega arith)

  -- a fixed column: its slot stored, its bit cleared
  pub build-fixed : (z a : ℕ) → get_or ss i Varlen ≡ Fixed z a → length b ≡ z
      → bit_edit i (some b) (sets (before ++ rest) (fixed_start w (length ss) (varlens ss) + slot_start true ss i) b) ≡ row_with w head ss (set cs i (some b)) (set bs i b) ++ rest
  build-fixed z a s q =
      let at : ℕ = fixed_start w (length ss) (varlens ss) + slot_start true ss i in
      let n : length b ≡ slot_size (get_or ss i Varlen) = q ∙ sym (ap slot_size s) in
      let inside : at + length b ≤ length before = rw (length-row w head four cells slots, n) (omega (arith, packed-inside ss i h)) in
      rw (sets-left before rest at b inside, bit-left i (some b) (sets before at b) rest (rw length-sets bit-inside), sets-splice before at b inside, q) (ap (λ (r : List ℕ). r ++ rest) (sym (edited_shape w true ss i (some b) before (Fixed z a) s) ∙ set-fixed w head four cells slots i h (some b) z a s q))

  -- a Varchar that is null, as are those of higher rank: its offset stored, which is where the row ends, its payload stored there, its bit cleared
  pub build_varlen : (m : ℕ) → get_or ss i Varlen ≡ Varlen → drop (rank_of ss i) (varlen_cells ss cs) ≡ replicate (suc m) none → length b ≤ length rest
      → bit_edit i (some b) (sets (sets (before ++ rest) (table_start (length ss) + rank_of ss i * w) (to_le w (length before))) (length before) b) ≡ row_with w head ss (set cs i (some b)) bs ++ drop (length b) rest
  unfolding row_with
  build_varlen m s nulls room =
      let n : ℕ = length before in
      let t : length (head ++ bitmap (bitmap_size (length ss)) cs) ≡ table_start (length ss) = length_front w head four cells slots in
      let e : ℕ = table_start (length ss) + rank_of ss i * w in
      let o = of_rank i cells h s in
      let inside : e + length (to_le w n) ≤ n = rw (length-to_le, length-row w head four cells slots) (omega (arith, mul-le-mul_right w (rank-inside ss i h s))) in
      let done : sets before e (to_le w n) ++ b ≡ lay w (head ++ bitmap (bitmap_size (length ss)) cs) (concat bs) (varlen_cells ss (set cs i (some b)))
      = rw (varlen_set i (some b) cells h s, ← t) (lay-next w (head ++ bitmap (bitmap_size (length ss)) cs) (concat bs) (varlen_cells ss cs) (rank_of ss i) m n b (omega (arith, o.inside)) nulls refl) in
      let bit : bitmap_start + i / 8 < length (sets before e (to_le w n) ++ b) = rw (length-append, length-sets) (omega (arith, bit-inside)) in
      rw (
        sets-left before rest e (to_le w n) inside,
        sets_end (sets before e (to_le w n)) rest n b (length-sets before e (to_le w n)) room,
        ← append_assoc (sets before e (to_le w n)) b (drop (length b) rest),
        bit-left i (some b) (sets before e (to_le w n) ++ b) (drop (length b) rest) bit,
        done,
      ) (ap (λ (r : List ℕ). r ++ drop (length b) rest) (rw (bits_set i (some b) cells h) at (bit-lay w head (bitmap (bitmap_size (length ss)) cs) (concat bs) (varlen_cells ss (set cs i (some b))) i (some b) four (rw length-bitmap (omega arith)))))

-- ---- column by column: the cells of the columns before i, and nulls

abbrev pub up_to : ℕ → List Cell → List Cell
up_to i [] = []
up_to zero (c ∷ cs) = none ∷ up_to zero cs
up_to (suc i) (c ∷ cs) = c ∷ up_to i cs

pub up_to_start : (cs : List Cell) → up_to 0 cs ≡ replicate (length cs) none
up_to_start [] = refl
up_to_start (c ∷ cs) = ap (λ (l : List Cell). none ∷ l) (up_to_start cs)

pub up_to_end : (cs : List Cell) → up_to (length cs) cs ≡ cs
up_to_end [] = refl
up_to_end (c ∷ cs) = ap (λ (l : List Cell). c ∷ l) (up_to_end cs)

up_to_next : (cs : List Cell) (i : ℕ) → up_to (suc i) cs ≡ set (up_to i cs) i (get_or cs i none)
up_to_next [] i = refl
up_to_next (c ∷ cs) zero = refl
up_to_next (c ∷ cs) (suc i) = ap (λ (l : List Cell). c ∷ l) (up_to_next cs i)

up_to_same : (cs : List Cell) (i : ℕ) → get_or cs i none ≡ none → up_to (suc i) cs ≡ up_to i cs
up_to_same [] i e = refl
up_to_same (c ∷ cs) zero e = ap (λ (d : Cell). d ∷ up_to 0 cs) e
up_to_same (c ∷ cs) (suc i) e = ap (λ (l : List Cell). c ∷ l) (up_to_same cs i e)

up_to_fit : {ss : List Shape} {cs : List Cell} (i : ℕ) → Forall₂ FitsCell ss cs → Forall₂ FitsCell ss (up_to i cs)
up_to_fit i nil = nil
up_to_fit zero (cons {a = s} r e) = cons (null-fits s) (up_to_fit zero e)
up_to_fit (suc i) (cons r e) = cons r (up_to_fit i e)

-- from the rank of column i on, all are null
varlens-after : {ss : List Shape} {cs : List Cell} (i : ℕ) → Forall₂ FitsCell ss cs → i < length ss → get_or ss i Varlen ≡ Varlen → drop (rank_of ss i) (varlen_cells ss (up_to i cs)) ≡ replicate (suc (varlens (drop (suc i) ss))) none
varlens-after i nil h v = absurd (omega arith)
varlens-after zero (cons {a = Fixed z a} r e) h v = let q : ◌≡◌ {A = ℕ} 0 1 = cc in absurd (omega arith)
varlens-after zero (cons {a = Varlen} {xs = ss} {ys = cs} r e) h v = rw (up_to_start cs, forall_length e) (ap (λ (l : List Cell). none ∷ l) (varlens-nulls ss))
varlens-after (suc i) (cons {a = Fixed z a} r e) h v = varlens-after i e (omega arith) v
varlens-after (suc i) (cons {a = Varlen} {xs = ss} r e) h v =
    let k : rank_of (Varlen ∷ ss) (suc i) ≡ suc (rank_of ss i) = varlens-cons Varlen (take i ss) ∙ one-add (rank_of ss i) in
    rw k (varlens-after i e (omega arith) v)

-- no payload comes that is not in the row at last
payloads-le : {ss : List Shape} {cs : List Cell} (i : ℕ) → Forall₂ FitsCell ss cs → length (payloads (varlen_cells ss (up_to i cs))) ≤ length (payloads (varlen_cells ss cs))
payloads-le i nil = omega arith
payloads-le zero (cons {a = Fixed z a} r e) = payloads-le zero e
payloads-le zero (cons {a = Varlen} {b = c} {xs = ss} {ys = cs} r e) = omega (arith, payloads-le zero e, length-append (bytes c) (payloads (varlen_cells ss cs)))
payloads-le (suc i) (cons {a = Fixed z a} r e) = payloads-le i e
payloads-le (suc i) (cons {a = Varlen} r e) = simp length-append (omega (arith, payloads-le i e))

-- the row of the columns before i, at the start of `out`, and what is stored for column i
module _ (w marks : ℕ) {ss : List Shape} {cs : List Cell} (cells : Forall₂ FitsCell ss cs) where
  abbrev pub built : ℕ → List ℕ
  built j = built_row w marks ss (up_to j cs)

  -- it is no longer than the row at last
  pub built-le : (j : ℕ) → length (built j) ≤ length (built_row w marks ss cs)
  built-le j =
      let f = up_to_fit j cells in
      rw (length-row w (header marks ss) (length-header marks ss) f (slots_fit f), length-row w (header marks ss) (length-header marks ss) cells (slots_fit cells)) (omega (arith, payloads-le j cells))

  pub built-null : (i : ℕ) → get_or cs i none ≡ none → built (suc i) ≡ built i
  built-null i e = ap (built_row w marks ss) (up_to_same cs i e)

  module _ (i : ℕ) (h : i < length ss) (b : List ℕ) (e : get_or cs i none ≡ some b) where
    next : up_to (suc i) cs ≡ set (up_to i cs) i (some b)
    next = up_to_next cs i ∙ rw e

    fits_next : FitsCell (get_or ss i Varlen) (some b)
    fits_next = rw e at (forall_get cells i h Varlen none)

    abbrev hd : List ℕ
    hd = header marks ss

    abbrev so_far : Forall₂ FitsCell ss (up_to i cs)
    so_far = up_to_fit i cells

    built-next : row_with w hd ss (set (up_to i cs) i (some b)) (slots_kept ss i (some b) (slots_of ss (up_to i cs))) ≡ built (suc i)
    built-next = rw (next, slots_set i (some b) so_far, ← slot_kept_lem (get_or ss i Varlen) (some b) (get_or (slots_of ss (up_to i cs)) i []) (forall_at i (slots_fit so_far)))

    module _ (rest : List ℕ) where
      built-fixed : (z a : ℕ) → get_or ss i Varlen ≡ Fixed z a
          → bit_edit i (some b) (sets (built i ++ rest) (fixed_start w (length ss) (varlens ss) + slot_start true ss i) b) ≡ built (suc i) ++ rest
      built-fixed z a s =
          build-fixed w hd (length-header marks ss) so_far (slots_fit so_far) i h b rest z a s (rw s at fits_next) ∙ ap (λ (r : List ℕ). r ++ rest) (rw s at built-next)

      built_varlen : get_or ss i Varlen ≡ Varlen → length b ≤ length rest
          → bit_edit i (some b) (sets (sets (built i ++ rest) (table_start (length ss) + rank_of ss i * w) (to_le w (length (built i)))) (length (built i)) b) ≡ built (suc i) ++ drop (length b) rest
      built_varlen s room =
          build_varlen w hd (length-header marks ss) so_far (slots_fit so_far) i h b rest (varlens (drop (suc i) ss)) s (varlens-after i cells h s) room
          ∙ ap (λ (r : List ℕ). r ++ drop (length b) rest) (rw (s, set-get_or) at built-next)

    pub length-built-fixed : (z a : ℕ) → get_or ss i Varlen ≡ Fixed z a → length (built (suc i)) ≡ length (built i)
    length-built-fixed z a s =
        let stored : List ℕ = sets (built i ++ []) (fixed_start w (length ss) (varlens ss) + slot_start true ss i) b in
        sym (simp (length-sets, append-nil) at (sym (length-bit_edit i (some b) stored) ∙ ap length (built-fixed [] z a s)))

    pub length-built_varlen : get_or ss i Varlen ≡ Varlen → length (built (suc i)) ≡ length (built i) + length b
    length-built_varlen s =
        let stored : List ℕ = sets (sets (built i ++ b) (table_start (length ss) + rank_of ss i * w) (to_le w (length (built i)))) (length (built i)) b in
        sym (simp (length-sets, length-append, drop-length, append-nil) at (sym (length-bit_edit i (some b) stored) ∙ ap length (built_varlen b s (le_refl (length b)))))

    module _ (out : List ℕ) (room : length (built_row w marks ss cs) ≤ length out) where
      held : (j : ℕ) → sets out 0 (built j) ≡ built j ++ drop (length (built j)) out
      held j = sets-start out (built j) (le_trans (built-le j) room)

      -- a fixed column: its slot stored, its bit cleared
      pub step_fixed : (z a : ℕ) → get_or ss i Varlen ≡ Fixed z a → bit_edit i (some b) (sets (sets out 0 (built i)) (fixed_start w (length ss) (varlens ss) + slot_start true ss i) b) ≡ sets out 0 (built (suc i))
      step_fixed z a s = rw (held i, held (suc i), length-built-fixed z a s) (built-fixed (drop (length (built i)) out) z a s)

      -- a Varchar: its offset stored, its payload stored at the row's end, its bit cleared
      pub step_varlen : get_or ss i Varlen ≡ Varlen
          → bit_edit i (some b) (sets (sets (sets out 0 (built i)) (table_start (length ss) + rank_of ss i * w) (to_le w (length (built i)))) (length (built i)) b) ≡ sets out 0 (built (suc i))
      step_varlen s =
          let n = length-built_varlen s in
          let l = built-le (suc i) in
          rw (held i, held (suc i), n, ← drop-drop (length b) (length (built i)) out) (built_varlen (drop (length (built i)) out) s (rw length-drop (omega arith)))
