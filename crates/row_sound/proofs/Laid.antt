-- Which rows that are laid out of parts are sound: each column by its bit, its slot or its cell.
use Rattle.std.specs.Prelude.{Ok}
use Prim.Native.Nat.{ℕ, zero, suc, ◌+◌, ◌*◌, ◌-◌, ◌/◌, ◌≤◌, ◌<◌}
use mathlib.Core.Path.{◌≡◌, refl, sym, ap, ap₂, ◌∙◌}
use mathlib.Core.Bool.{Bool, true, false, cond}
use mathlib.Core.List.{List, [], ◌∷◌, ◌++◌, map, append-nil, append_assoc}
use mathlib.Core.Option.{none, some}
use native.Mathlib.Nat.{add-zero}
use native.Mathlib.Numerals.{add-one}
use native.Mathlib.Omega.{arith}
use borrow.Author.Tests.{le-ltb, ne_eqb, eq-eqb}
use lib.Dec.{eqb}
use lib.ListN.{length, get_or, take, drop, length-append, length-drop, length-map, get_or-append}
use lib.Seq.{drop-drop, drop_at, take_all, take-suc, take-append-le, drop-append-le, length-take-le}
use Rattle.laws.specs.Bits.{bit_at}
use Rattle.laws.specs.Bytes.{from_table, entry_at}
use Rattle.row_format.specs.declared.Shape.{Shape}
use Rattle.row_format.specs.declared.Shape.TheVariants.{Fixed, Varlen}
use Rattle.row_format.specs.Places.{rank_after, varlens, rank_of, slot_start, bitmap_start, table_start, fixed_start, slot_place, minimum}
use Rattle.row_format.specs.Table.{Cell, bytes, payloads, offset, base, lay, first_offset, range_end}
use Rattle.row_format.specs.Row.{slot_size}
use Rattle.row_format.proofs.Places.{through-next, slot-inside, rank-inside}
use Rattle.row_format.proofs.Table.{payloads-append, length-lay, past-table, table-read, first_offsets, place, entry_lay, end-lay, range-lay}
use Rattle.row_format.specs.InnerTable.{range_bytes}
use Rattle.row_layout.specs.Range.{varlen_range}
use Rattle.datatype.specs.declared.DataType.{DataType}
use Rattle.datatype.specs.Types.{size_of, alignment_of, is_varlen, shape_of}
use Rattle.datatype.specs.Check.{type_at}
use Rattle.datatype.proofs.Again.{all_aligned}
use Rattle.value.specs.declared.DataValue.TheVariants as D
use Rattle.row_column.specs.Column.{read_bytes, varlen_value, column_value}
use Rattle.row_column.proofs.Walk.{shape_at}
use Rattle.row_sound.specs.Sound.{reads, zero_if_null, sound_column, first_payload, is_sound_in}
use Rattle.row_sound.specs.Reread.{Content, content, column_content, payload_of, payload_bytes, length_in}
use Rattle.row_sound.specs.Laid.{Parts, held_content, held_part, held_place, held_value, sound_cell, sound_part, sound_slot}
use Rattle.row_sound.proofs.Columns.{columns-sound}
use Rattle.row_sound.proofs.Contents.{reads-content, content-held, cell_sound, slot-sound, sound-payload}

-- ---- a column of a row, by the places of its bytes

-- a Varchar of rank k whose payload stands at `at` and holds the cell c
module _ (w : ℕ) (t : DataType) (i table v k at : ℕ) (r : List ℕ) (pos : 0 < at) where
  varchar-value : (null : Bool) (c : Cell) → entry_at w table k r ≡ offset c at → range_end w table v k r ≡ at + length (bytes c) → at + length (bytes c) ≤ length r
      → ((b : List ℕ) → c ≡ some b → take (length b) (drop at r) ≡ b)
      → cond null (Ok D.Null) (varlen_value t i r (varlen_range w table v k r)) ≡ held_value t i null at c
  varchar-value true none o e l h = refl
  varchar-value false none o e l h = rw o
  varchar-value true (some b) o e l h = refl
  varchar-value false (some b) o e l h =
      let size : at + length b - at ≡ length b = omega arith in
      rw (o, ne_eqb at 0 (λ z. omega arith), e, le-ltb (at + length b) at (omega arith), le-ltb (length r) (at + length b) l, size, h b refl)

-- a fixed column whose slot stands at `at`
slot-value : (t : DataType) (i at : ℕ) (r slot : List ℕ) (null : Bool) → take (size_of t) (drop at r) ≡ slot
    → cond null (Ok D.Null) (read_bytes t i r at (at + size_of t)) ≡ held_value t i null at (some slot)
slot-value t i at r slot true e = refl
slot-value t i at r slot false e =
    let size : at + size_of t - at ≡ size_of t = omega arith in
    rw (size, e)

-- ---- a row that is laid out of a header, a bitmap, a region of fixed columns and the cells of Varchars

-- a payload lies among the payloads
payload-inside : (ps : List Cell) (k : ℕ) → k < length ps → length (payloads (take k ps)) + length (bytes (get_or ps k none)) ≤ length (payloads ps)
payload-inside [] k h = absurd (omega arith)
payload-inside (c ∷ ps) zero h = rw length-append (omega arith)
payload-inside (c ∷ ps) (suc k) h = simp length-append (omega (arith, payload-inside ps k (omega arith)))

module _ {w : ℕ} {p : Bool} {ts : List DataType} {head bits region : List ℕ} {ps : List Cell} (q : Parts w p ts head bits region ps) where
  abbrev ss : List Shape
  ss = map shape_of ts

  abbrev row : List ℕ
  row = lay w (head ++ bits) region ps

  length_front : length (head ++ bits) ≡ table_start (length ss)
  length_front = rw (length-append, q.four, q.bitmap)

  pos : 0 < length (head ++ bits)
  pos = omega (arith, length_front)

  base-is : base w (head ++ bits) region ps ≡ minimum w p (map shape_of ts)
  base-is = rw (length_front, q.cells, q.fixed)

  pub laid_length : length row ≡ minimum w p (map shape_of ts) + length (payloads ps)
  laid_length = length-lay w (head ++ bits) region ps ∙ ap (λ (n : ℕ). n + length (payloads ps)) base-is

  pub bit_of_lem : (i : ℕ) → i < length ts → bit_at i (drop bitmap_start row) ≡ bit_at i bits
  unfolding lay
  bit_of_lem i h =
      let n : length ss ≡ length ts = length-map ts shape_of in
      let m : i / 8 < length bits = rw (q.bitmap, n) (omega arith) in
      rw (append_assoc head, drop_at head _ 4 q.four, get_or-append)

  pub slot_of : (at z : ℕ) → at + z ≤ length region → take z (drop (fixed_start w (length ss) (varlens ss) + at) row) ≡ take z (drop at region)
  slot_of at z h =
      rw (← length_front, ← q.cells, ← drop-drop at (length (head ++ bits) + length ps * w) row, past-table, drop-append-le at region (payloads ps) (omega arith))
      (take-append-le z (drop at region) (payloads ps) (rw length-drop (omega arith)))

  module _ (i : ℕ) (h : i < length ts) where
    abbrev t : DataType
    t = type_at ts i

    below : i < length ss
    below = rw (length-map ts shape_of) h

    columns : length ts ≡ length ss
    columns = sym (length-map ts shape_of)

    abbrev null : Bool
    null = eqb (bit_at i bits) 1

    -- a Varchar
    module _ (v : is_varlen t ≡ true) where
      abbrev k : ℕ
      k = rank_of ss i

      abbrev cell : Cell
      cell = get_or ps k none

      abbrev at : ℕ
      at = minimum w p (map shape_of ts) + length (payloads (take k ps))

      rank : k < length ps
      rank = rw q.cells (rank-inside ss i below (shape_at ts i ∙ rw v))

      at_is : place w (head ++ bits) region pos ps k ≡ at
      at_is = ap (λ (n : ℕ). n + length (payloads (take k ps))) base-is

      entry : entry_at w (table_start (length ss)) k row ≡ offset cell at
      entry = ap (λ (n : ℕ). entry_at w n k row) (sym length_front) ∙ entry_lay w (head ++ bits) region pos ps k rank q.fits ∙ ap (offset cell) at_is

      end : range_end w (table_start (length ss)) (varlens ss) k row ≡ at + length (bytes cell)
      end =
          ap₂ (λ (n m : ℕ). range_end w n m k row) (sym length_front) (sym q.cells) ∙ end-lay w (head ++ bits) region pos ps k rank q.fits
          ∙ ap (λ (n : ℕ). n + length (bytes cell)) at_is

      within : at + length (bytes cell) ≤ length row
      within = rw laid_length (omega (arith, payload-inside ps k rank))

      payload : (b : List ℕ) → cell ≡ some b → take (length b) (drop at row) ≡ b
      unfolding range_bytes
      payload b e =
          let size : at + length b - at ≡ length b = omega arith in
          let is = ap₂ (λ (n m : ℕ). range_bytes w n m k row) (sym length_front) (sym q.cells) ∙ range-lay w (head ++ bits) region pos ps k b rank e q.fits in
          rw (end, entry, e, size) at is

      varchar-lay : cond (eqb (bit_at i (drop bitmap_start row)) 1) (Ok D.Null) (varlen_value t i row (varlen_range w (table_start (length ss)) (varlens ss) k row)) ≡ held_value t i null at cell
      varchar-lay = rw (bit_of_lem i h) (varchar-value w t i (table_start (length ss)) (varlens ss) k at row (omega (arith, pos)) null cell entry end within payload)

      offset-lay : cond (reads (held_content t i null cell).0) (zero_if_null (entry_at w (table_start (length ss)) k row) (eqb (bit_at i (drop bitmap_start row)) 1)) false ≡ sound_cell t null cell
      offset-lay = rw (bit_of_lem i h, entry) (cell_sound t i at null cell (omega (arith, pos)))

    -- a fixed column
    module _ (v : is_varlen t ≡ false) where
      abbrev start : ℕ
      start = slot_place w p ss i

      abbrev slot : List ℕ
      slot = take (size_of t) (drop (slot_start p ss i) region)

      inside : slot_start p ss i + size_of t ≤ length region
      inside = let is : get_or ss i Varlen ≡ Fixed (size_of t) (alignment_of t) = shape_at ts i ∙ rw v in rw q.fixed (rw (ap slot_size is) at (slot-inside p ss i (all_aligned ts) below))

      slot_in : take (size_of t) (drop start row) ≡ slot
      slot_in = slot_of (slot_start p ss i) (size_of t) inside

      slot-size : length slot ≡ size_of t
      slot-size = length-take-le (size_of t) (drop (slot_start p ss i) region) (rw length-drop (omega (arith, inside)))

      fixed-lay : cond (eqb (bit_at i (drop bitmap_start row)) 1) (Ok D.Null) (read_bytes t i row start (start + size_of t)) ≡ held_value t i null start (some slot)
      fixed-lay = rw (bit_of_lem i h) (slot-value t i start row slot null slot_in)

    abbrev held : Cell
    held = held_part p ts region ps i

    -- what is read of it
    pub value-lay : column_value w p ts i row ≡ held_value t i null (held_place w p ts ps i) held
    value-lay = by_kind (is_varlen t) refl
      where
        by_kind : (x : Bool) → is_varlen t ≡ x → column_value w p ts i row
            ≡ held_value t i null (held_place w p ts ps i) held
        by_kind true v = rw (v, columns) (varchar-lay v)
        by_kind false v = rw v (fixed-lay v)

    -- the bytes stand in their place
    pub held-lay : (b : List ℕ) → held ≡ some b → take (length b) (drop (held_place w p ts ps i) row) ≡ b
    held-lay = by_kind (is_varlen t) refl
      where
        by_kind : (x : Bool) → is_varlen t ≡ x → (b : List ℕ) → held ≡ some b → take (length b) (drop (held_place w p ts ps i) row) ≡ b
        by_kind true v b e = rw v (payload v b (rw v at e))
        by_kind false v b e =
            let is : slot v ≡ b = ap bytes (rw v at e) in
            rw v (rw (slot-size v, slot_in v) at (ap (λ (x : List ℕ). take (length x) (drop (start v) row)) (sym is)) ∙ is)

    pub content-lay : column_content w p ts i row ≡ held_content t i null held
    content-lay = ap (content row) value-lay ∙ content-held t i (held_place w p ts ps i) row null held held-lay

    -- a Varchar's payload
    pub payload-lay : is_varlen t ≡ true → sound_part p ts bits region ps i ≡ true → payload_of w p ts i row ≡ bytes held
    payload-lay v s =
        ap (λ (x : Bool). cond x (column_content w p ts i row).1 []) v
        ∙ ap (λ (x : Content). x.1) content-lay
        ∙ sound-payload t i null held v (sym (ap (λ (x : Bool). cond x (sound_cell t null held) (sound_slot t null (bytes held))) v) ∙ s)

    reads-lay : reads (column_value w p ts i row) ≡ reads (held_content t i null held).0
    reads-lay =
        sym (reads-content row (column_value w p ts i row)) ∙ ap (λ (c : Content). reads c.0) content-lay

    pub column-lay : sound_column w p ts i row ≡ sound_part p ts bits region ps i
    unfolding sound_column
    column-lay =
        ap (λ (x : Bool). cond x (cond (is_varlen t) (offset_sound (length ts)) true) false) reads-lay
        ∙ ap (λ (n : ℕ). cond (reads (held_content t i null held).0)
        (cond (is_varlen t) (offset_sound n) true) false) columns
        ∙ by_kind (is_varlen t) refl
      where
        offset_sound : ℕ → Bool
        offset_sound n = zero_if_null (entry_at w (table_start n) (rank_of ss i) row)
            (eqb (bit_at i (drop bitmap_start row)) 1)

        by_kind : (x : Bool) → is_varlen t ≡ x
            → cond (reads (held_content t i null held).0) (cond (is_varlen t) (offset_sound (length ss)) true) false
            ≡ sound_part p ts bits region ps i
        by_kind true v = rw v (offset-lay v)
        by_kind false v = rw v (slot-sound t i null (slot v))

  pub first_lay : first_payload w (table_start (length ts)) (varlens ss) row
      ≡ minimum w p (map shape_of ts)
  first_lay =
      let front : List ℕ = head ++ bits in
      ap₂ (λ (n m : ℕ). first_offset (from_table w m (drop n row)) (length row))
      (ap table_start (sym (length-map ts shape_of)) ∙ sym length_front) (sym q.cells)
      ∙ rw (table-read w front region ps q.fits) (first_offsets (length row) (base w front region ps) ps (omega (arith, pos)) (sym (length-lay w front region ps)))
      ∙ base-is

  -- the row is sound if each of its columns is
  pub laid_sound : ((i : ℕ) → i < length ts → sound_part p ts bits region ps i ≡ true) → is_sound_in w p ts row
      ≡ true
  laid_sound all =
      rw (columns-sound w p ts row (λ i h. column-lay i h ∙ all i h))
      (eq-eqb (first_payload w (table_start (length ts)) (varlens ss) row)
      (minimum w p ss) first_lay)

  -- its length, by the payloads that are read
  module _ (all : (i : ℕ) → i < length ts → sound_part p ts bits region ps i ≡ true) where
    payload-next : (n : ℕ) → n < length ts → (x : Bool) → is_varlen (type_at ts n) ≡ x → length (payloads (take (rank_of ss n) ps)) + length (payload_of w p ts n row) ≡ length (payloads (take (rank_of ss (suc n)) ps))
    payload-next n l true v =
        let k : ℕ = rank_of ss n in
        let next : rank_of ss (suc n) ≡ suc k = through-next rank_after ss n 0 (below n l) ∙ rw (shape_at ts n, v) (add-one k) in
        let own : payload_of w p ts n row ≡ bytes (get_or ps k none) = payload-lay n l v (all n l) ∙ ap (λ (y : Bool). bytes (cond y (get_or ps k none) (some (take (size_of (type_at ts n)) (drop (slot_start p ss n) region))))) v in
        let cut : length (payloads (take (suc k) ps)) ≡ length (payloads (take k ps)) + length (bytes (get_or ps k none)) = rw (take-suc ps k none (rank n l v), payloads-append, length-append, append-nil) in
        ap (λ (m : ℕ). length (payloads (take k ps)) + m) (ap length own) ∙ sym (ap (λ (m : ℕ). length (payloads (take m ps))) next ∙ cut)
    payload-next n l false v =
        let k : ℕ = rank_of ss n in
        let next : rank_of ss (suc n) ≡ k = through-next rank_after ss n 0 (below n l) ∙ rw (shape_at ts n, v) in
        let own : payload_of w p ts n row ≡ [] = ap (λ (y : Bool). cond y (column_content w p ts n row).1 []) v in
        ap (λ (m : ℕ). length (payloads (take k ps)) + m) (ap length own) ∙ add-zero (length (payloads (take k ps))) ∙ sym (ap (λ (m : ℕ). length (payloads (take m ps))) next)

    payloads_to : (n : ℕ) → n ≤ length ts → payload_bytes w p ts row n ≡ length (payloads (take (rank_of ss n) ps))
    payloads_to zero l = refl
    payloads_to (suc n) l = ap (λ (m : ℕ). m + length (payload_of w p ts n row)) (payloads_to n (omega arith)) ∙ payload-next n l (is_varlen (type_at ts n)) refl

    pub payload-length : length row ≡ length_in w p ts row
    payload-length =
        let n : length ts ≡ length ss = sym (length-map ts shape_of) in
        let every : take (rank_of ss (length ts)) ps ≡ ps = rw (n, take_all (length ss) ss (omega arith), ← q.cells) (take_all (length ps) ps (omega arith)) in
        laid_length ∙ ap (λ (m : ℕ). minimum w p (map shape_of ts) + m)
        (sym (payloads_to (length ts) (omega arith) ∙ ap (λ (cs : List Cell). length (payloads cs)) every))
