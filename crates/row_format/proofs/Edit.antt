-- A column of a row set to a cell, in any row that is laid out: packed or padded. And the length of an edited row.
use Prim.Native.Nat.{ℕ, zero, suc, ◌+◌, ◌*◌, ◌-◌, ◌/◌, ◌^◌, ◌≤◌, ◌<◌}
use mathlib.Core.Path.{◌≡◌, refl, sym, ap, ◌∙◌}
use mathlib.Core.Bool.{Bool}
use mathlib.Core.List.{List, [], ◌∷◌, ◌++◌, append_assoc, map}
use mathlib.Core.Option.{none, some}
use native.Mathlib.Nat.{add-zero, add_assoc, le_trans, le-add_right}
use native.Mathlib.Omega.{arith}
use lib.ListN.{length, get_or, take, drop, set, length-append, length-drop, length-set, length-map, take-append-drop, get_or-append}
use lib.Seq.{length-take-le, take_at, drop_at, take-append_seam, set-append_seam, get_or-append_seam, set-append_left, drop-drop}
use Rattle.laws.specs.Bytes.{to_table, from_table, splice}
use Rattle.laws.specs.Bits.{put_bit_at}
use Rattle.laws.proofs.Bytes.{length-to_table, length-from_table, length-splice, splice_at}
use Rattle.laws.proofs.Forall.{by_cut}
use Rattle.row_format.specs.declared.Shape.{Shape}
use Rattle.row_format.specs.declared.Shape.TheVariants.{Fixed, Varlen}
use Rattle.row_format.specs.Places.{varlens, rank_of, slot_start, bitmap_size, table_start, fixed_start}
use Rattle.row_format.specs.Table.{Cell, bytes, payloads, offset, offsets, base, lay, or_else, range_end}
use Rattle.row_format.specs.Row.{null_bit}
use Rattle.row_format.specs.Edit.{offset_table, span, moved_by, moved_offsets, range_start, range_edit, varlen_edit, slot_edit, bit_edit, column_edit, edited_row}
use Rattle.row_format.proofs.Table.{payloads-append, length-offsets, offsets-append, place, table_cut, entry_lay, end-lay, drop_past}
use Rattle.row_format.proofs.Places.{rank-inside}
use Rattle.row_format.specs.InnerRow.{FitsCell}

-- ---- a Varchar of a row

-- an offset that is not 0
moved-some : (e f o : ℕ) → 0 < o → moved_by e f o ≡ o + f - e
moved-some e f zero h = absurd (omega arith)
moved-some e f (suc o) h = refl

-- the offsets of payloads that stand d bytes behind e, moved to behind f
module _ (e f : ℕ) (pos : 0 < e) where
  moved-offset : (c : Cell) (d : ℕ) → moved_by e f (offset c (e + d)) ≡ offset c (f + d)
  moved-offset none d = refl
  moved-offset (some b) d = moved-some e f (e + d) (omega arith) ∙ omega arith

  moved-offsets : (d : ℕ) (cs : List Cell) → map (moved_by e f) (offsets (e + d) cs) ≡ offsets (f + d) cs
  moved-offsets d [] = refl
  moved-offsets d (c ∷ cs) = rw (moved-offset c d, add_assoc e d, add_assoc f d, moved-offsets (d + length (bytes c)) cs)

or_offset : (c : Cell) (at : ℕ) → 0 < at → or_else (offset c at) (at + length (bytes c)) ≡ at
or_offset none at h = add-zero at
or_offset (some b) zero h = absurd (omega arith)
or_offset (some b) (suc at) h = refl

-- a row cut at a rank
module _ (w : ℕ) (front region : List ℕ) (us vs : List Cell) where
  abbrev count : ℕ
  count = length us + suc (length vs)

  abbrev bottom : ℕ
  bottom = length front + count * w + length region

  abbrev at : ℕ
  at = bottom + length (payloads us)

  table : Cell → List ℕ
  table c = offsets bottom us ++ (offset c at ∷ offsets (at + length (bytes c)) vs)

  parts : List ℕ → Cell → List ℕ
  parts os c = front ++ (to_table w os ++ (region ++ (payloads us ++ (bytes c ++ payloads vs))))

  lay_parts : (c : Cell) → lay w front region (us ++ c ∷ vs) ≡ parts (table c) c
  unfolding lay parts table
  lay_parts c = rw (length-append, offsets-append, payloads-append)

  length-table : (c : Cell) → length (table c) ≡ count
  unfolding table
  length-table c = simp (length-append, length-offsets)

  payload_spliced : (os : List ℕ) (c d : Cell) → length os ≡ count → splice at (at + length (bytes d)) (bytes c) (parts os d) ≡ parts os c
  unfolding parts
  payload_spliced os c d l =
      let head : List ℕ = front ++ (to_table w os ++ (region ++ payloads us)) in
      let cut : (b : Cell) → front ++ (to_table w os ++ (region ++ (payloads us ++ (bytes b ++ payloads vs)))) ≡ head ++ (bytes b ++ payloads vs) = λ b. simp append_assoc in
      let n : length head ≡ at = simp (length-append, length-to_table, l) (omega arith) in
      rw (cut c, cut d) (splice_at head (bytes d) (payloads vs) (bytes c) at (at + length (bytes d)) n (rw n))

  table_spliced : (os qs : List ℕ) (c : Cell) → length os ≡ count → splice (length front) (length front + count * w) (to_table w qs) (parts os c) ≡ parts qs c
  unfolding parts
  table_spliced os qs c l = splice_at front (to_table w os) _ (to_table w qs) (length front) (length front + count * w) refl (rw (length-to_table, l))

  table-moved : (c d : Cell) → 0 < at → moved_offsets (length us) c at (at + length (bytes d)) (table d) ≡ table c
  unfolding table
  table-moved c d pos =
      let n = length-offsets bottom us in
      rw (take_at (offsets bottom us) _ (length us) n, drop_past (offsets bottom us) _ _ (length us) n, simp add-zero at (moved-offsets (at + length (bytes d)) (at + length (bytes c)) (omega arith) 0 vs))

module _ (w : ℕ) (front region : List ℕ) (pos : 0 < length front) where
  pub start-lay : (cs : List Cell) (k : ℕ) → k < length cs → length (lay w front region cs) < 256 ^ w → range_start w (length front) (length cs) k (lay w front region cs) ≡ place w front region pos cs k
  unfolding range_start
  start-lay cs k h fits = rw (entry_lay w front region pos cs k h fits, end-lay w front region pos cs k h fits) (or_offset (get_or cs k none) (place w front region pos cs k) (omega arith))

  -- the edit of rank k is the row of the changed cells
  pub lay_edit : (c : Cell) (cs : List Cell) (k : ℕ) → k < length cs → length (lay w front region cs) < 256 ^ w → varlen_edit w (length front) (length cs) k c (lay w front region cs) ≡ lay w front region (set cs k c)
  unfolding varlen_edit table
  lay_edit c = by_cut (λ cs k. length (lay w front region cs) < 256 ^ w → varlen_edit w (length front) (length cs) k c (lay w front region cs) ≡ lay w front region (set cs k c))
      λ us d vs fits.
      let h : length us < length (us ++ d ∷ vs) = rw length-append (omega arith) in
      let n : length (us ++ d ∷ vs) ≡ count w front region us vs = length-append us (d ∷ vs) in
      let p : place w front region pos (us ++ d ∷ vs) (length us) ≡ at w front region us vs = rw (take-append_seam, length-append) in
      let b : base w front region (us ++ d ∷ vs) ≡ bottom w front region us vs = rw length-append in
      let read : from_table w (length (us ++ d ∷ vs)) (drop (length front) (lay w front region (us ++ d ∷ vs))) ≡ table w front region us vs d = table_cut w front region pos us d vs fits ∙ rw (p, b) in
      let start : range_start w (length front) (length (us ++ d ∷ vs)) (length us) (lay w front region (us ++ d ∷ vs)) ≡ at w front region us vs = start-lay (us ++ d ∷ vs) (length us) h fits ∙ p in
      let end : range_end w (length front) (length (us ++ d ∷ vs)) (length us) (lay w front region (us ++ d ∷ vs)) ≡ at w front region us vs + length (bytes d) = end-lay w front region pos (us ++ d ∷ vs) (length us) h fits ∙ rw (p, get_or-append_seam) in
      rw (
        start,
        end,
        read,
        set-append_seam,
        table-moved w front region us vs c d (omega arith),
        n,
        lay_parts w front region us vs d,
        lay_parts w front region us vs c,
        payload_spliced w front region us vs (table w front region us vs d) c d (length-table w front region us vs d),
      )
      (table_spliced w front region us vs (table w front region us vs d) (table w front region us vs c) c (length-table w front region us vs d))

-- ---- a fixed column, and a bit

-- bytes of the fixed columns replaced by as many
slot-lay : (w : ℕ) (front region : List ℕ) (ps : List Cell) (at z a : ℕ) (c : Cell) → FitsCell (Fixed z a) c → at + z ≤ length region
    → slot_edit (length front + length ps * w + at) z c (lay w front region ps) ≡ lay w front (slot_edit at z c region) ps
unfolding lay
slot-lay w front region ps at z a none q h = refl
slot-lay w front region ps at z a (some b) q h =
    let n : length (splice at (at + z) b region) ≡ length region = length-splice at (at + z) b region (omega arith) h ∙ rw q (omega arith) in
    let table : List ℕ = to_table w (offsets (length front + length ps * w + length region) ps) in
    let low : List ℕ = front ++ (table ++ take at region) in
    let old : List ℕ = take z (drop at region) in
    let high : List ℕ = drop (at + z) region ++ payloads ps in
    let m : length low ≡ length front + length ps * w + at = simp (length-append, length-to_table, length-offsets, length-take-le at region (le_trans (le-add_right at z) h)) (omega arith) in
    let o : length old ≡ z = length-take-le z (drop at region) (rw length-drop (omega arith)) in
    let cut : region ≡ take at region ++ (old ++ drop (at + z) region) = sym (rw (← drop-drop z at region, take-append-drop) (take-append-drop at region)) in
    let parts : (x : List ℕ) → front ++ (table ++ ((take at region ++ (x ++ drop (at + z) region)) ++ payloads ps)) ≡ low ++ (x ++ high) = λ x. simp append_assoc in
    rw (n, parts b) (ap (λ (x : List ℕ). slot_edit (length front + length ps * w + at) z (some b) (front ++ (table ++ (x ++ payloads ps)))) cut ∙ rw (parts old) (splice_at low old high b (length front + length ps * w + at) (length front + length ps * w + at + z) m (rw (m, o))))

pub bit-lay : (w : ℕ) (head bits region : List ℕ) (ps : List Cell) (i : ℕ) (c : Cell) → length head ≡ 4 → i / 8 < length bits → bit_edit i c (lay w (head ++ bits) region ps) ≡ lay w (head ++ put_bit_at (null_bit c) i bits) region ps
unfolding lay
bit-lay w head bits region ps i c four inside =
    let n : length (head ++ put_bit_at (null_bit c) i bits) ≡ length (head ++ bits) = simp (length-append, length-set) in
    rw n (simp (append_assoc head) (rw (take_at head _ 4 four, drop_at head _ 4 four, get_or-append, set-append_left)))

-- ---- a column of any row: packed or padded, whatever its spare bits, its padding and the slots of its null columns hold

-- column i has the shape s
pub edited_shape : (w : ℕ) (p : Bool) (ss : List Shape) (i : ℕ) (c : Cell) (r : List ℕ) (s : Shape) → get_or ss i Varlen ≡ s → edited_row w p ss i c r ≡ bit_edit i c (column_edit w p ss i s c r)
unfolding edited_row
edited_shape w p ss i c r s e = ap (λ (t : Shape). bit_edit i c (column_edit w p ss i t c r)) e

module _ (w : ℕ) (p : Bool) (ss : List Shape) (i : ℕ) (h : i < length ss) (head bits region : List ℕ) (ps : List Cell) (four : length head ≡ 4) (n : length bits ≡ bitmap_size (length ss)) (m : length ps ≡ varlens ss) (c : Cell) where
  length_head : length (head ++ bits) ≡ table_start (length ss)
  length_head = rw (length-append, four, n)

  pub edit_fixed : (z a : ℕ) → get_or ss i Varlen ≡ Fixed z a → FitsCell (Fixed z a) c → slot_start p ss i + z ≤ length region
      → edited_row w p ss i c (lay w (head ++ bits) region ps) ≡ lay w (head ++ put_bit_at (null_bit c) i bits) (slot_edit (slot_start p ss i) z c region) ps
  edit_fixed z a s q inside =
      edited_shape w p ss i c (lay w (head ++ bits) region ps) (Fixed z a) s
      ∙ rw (← length_head, ← m, slot-lay w (head ++ bits) region ps (slot_start p ss i) z a c q inside) (bit-lay w head bits (slot_edit (slot_start p ss i) z c region) ps i c four (rw n (omega arith)))

  pub edit_varlen : get_or ss i Varlen ≡ Varlen → length (lay w (head ++ bits) region ps) < 256 ^ w
      → edited_row w p ss i c (lay w (head ++ bits) region ps) ≡ lay w (head ++ put_bit_at (null_bit c) i bits) region (set ps (rank_of ss i) c)
  edit_varlen s fits =
      let k : rank_of ss i < length ps = rw m (rank-inside ss i h s) in
      edited_shape w p ss i c (lay w (head ++ bits) region ps) Varlen s
      ∙ rw (← length_head, ← m, lay_edit w (head ++ bits) region (omega (arith, length_head)) c ps (rank_of ss i) k fits) (bit-lay w head bits region (set ps (rank_of ss i) c) i c four (rw n (omega arith)))

-- ---- lengths

pub length-bit_edit : (i : ℕ) (c : Cell) (r : List ℕ) → length (bit_edit i c r) ≡ length r
length-bit_edit i c r = rw (length-append, length-set, ← length-append) (ap length (take-append-drop 4 r))

length_moved : (k v a e : ℕ) (c : Cell) (os : List ℕ) → k < v → length os ≡ v → length (moved_offsets k c a e os) ≡ v
length_moved k v a e c os h l =
    let n : k ≤ length os = omega arith in
    rw (length-append, length-take-le k os n, length-map, length-drop) (omega arith)

-- where the range from a to e lies past the table and in the row
pub length-range_edit : (w t v k : ℕ) (c : Cell) (a e : ℕ) (r : List ℕ) → k < v → t + v * w ≤ a → a ≤ e → e ≤ length r → length (range_edit (offset_table w t v) k c (span a e) r) ≡ length r - (e - a) + length (bytes c)
length-range_edit w t v k c a e r h table range inside =
    let m : length (splice a e (bytes c) r) ≡ length r - (e - a) + length (bytes c) = length-splice a e (bytes c) r range inside in
    let os : List ℕ = moved_offsets k c a e (from_table w v (drop t r)) in
    let n : length (to_table w os) ≡ v * w = length-to_table w os ∙ rw (length_moved k v a e c (from_table w v (drop t r)) h (length-from_table w v (drop t r))) in
    length-splice t (t + v * w) (to_table w os) (splice a e (bytes c) r) (omega arith) (rw m (omega arith)) ∙ rw (m, n) (omega arith)

-- any row, packed or padded: a fixed column whose slot lies in it, and a Varchar
module _ (w : ℕ) (p : Bool) (ss : List Shape) (i : ℕ) (r : List ℕ) where
  length-slot_edit : (at z a : ℕ) (c : Cell) → FitsCell (Fixed z a) c → at + z ≤ length r → length (slot_edit at z c r) ≡ length r
  length-slot_edit at z a none q h = refl
  length-slot_edit at z a (some b) q h = length-splice at (at + z) b r (omega arith) h ∙ rw q (omega arith)

  pub length-edited-fixed : (z a : ℕ) (c : Cell) → get_or ss i Varlen ≡ Fixed z a → FitsCell (Fixed z a) c → fixed_start w (length ss) (varlens ss) + slot_start p ss i + z ≤ length r → length (edited_row w p ss i c r) ≡ length r
  length-edited-fixed z a c s q h =
      let at : ℕ = fixed_start w (length ss) (varlens ss) + slot_start p ss i in
      rw (edited_shape w p ss i c r (Fixed z a) s, length-bit_edit i c (slot_edit at z c r)) (length-slot_edit at z a c q h)

  abbrev start : ℕ
  start = range_start w (table_start (length ss)) (varlens ss) (rank_of ss i) r

  abbrev end : ℕ
  end = range_end w (table_start (length ss)) (varlens ss) (rank_of ss i) r

  pub length-edited : (c : Cell) → i < length ss → get_or ss i Varlen ≡ Varlen → fixed_start w (length ss) (varlens ss) ≤ start → start ≤ end → end ≤ length r → length (edited_row w p ss i c r) ≡ length r - (end - start) + length (bytes c)
  unfolding varlen_edit
  length-edited c h s table range inside =
      rw (edited_shape w p ss i c r Varlen s, length-bit_edit i c (varlen_edit w (table_start (length ss)) (varlens ss) (rank_of ss i) c r)) (length-range_edit w (table_start (length ss)) (varlens ss) (rank_of ss i) c start end r (rank-inside ss i h s) table range inside)
