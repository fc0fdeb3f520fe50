-- FORMAT 8.4, 8.5, 8.6. 01, "Histories of edits" and "Editing": a column of a row set to a cell. It goes by the bytes
-- that stand in the row, so it is defined for any row, packed or padded, whatever its spare bits, its padding and the
-- slots of its null columns hold.
use Rattle.std.specs.Prelude.{ℕ, zero, suc, ◌+◌, ◌*◌, ◌-◌, Bool, List, ◌∷◌, ◌++◌, map, length, get_or, take, drop}
use Rattle.std.proofs.Math.Option.{none, some}
use Rattle.laws.specs.Bytes.{to_table, from_table, entry_at, splice}
use Rattle.laws.specs.Bits.{put_bit_at}
use Rattle.row_format.specs.declared.Shape.{Shape}
use Rattle.row_format.specs.declared.Shape.TheVariants.{Fixed, Varlen}
use Rattle.row_format.specs.Places.{varlens, rank_of, bitmap_start, table_start, slot_place}
use Rattle.row_format.specs.Table.{Cell, bytes, offset, or_else, range_end}
use Rattle.row_format.specs.Row.{null_bit}

-- ---- a Varchar

-- An offset behind a range that ended at e and ends at f now. 0 says null, so it stays: 01's wrong turn is "Moving
-- every later offset after an edit, zeros included".
abbrev pub moved_by : ℕ → ℕ → ℕ → ℕ
moved_by e f zero = 0
moved_by e f (suc o) = suc o + f - e

-- the offsets, where the range of rank k went from a to e and now holds the cell c: its own is a, or 0 for a null,
-- and those of higher rank move
abbrev pub moved_offsets : ℕ → Cell → ℕ → ℕ → List ℕ → List ℕ
moved_offsets k c a e os = take k os ++ (offset c a ∷ map (moved_by e (a + length (bytes c))) (drop (suc k) os))

-- the range of rank k starts at its offset; that of a null is empty and stands at its end
unfoldable pub range_start : ℕ → ℕ → ℕ → ℕ → List ℕ → ℕ
range_start w t v k r = or_else (entry_at w t k r) (range_end w t v k r)

-- a table of offsets: `entries` of them, `width` bytes each, from byte `start` on
pub record OffsetTable : Type 0 where
  pub width : ℕ
  pub start : ℕ
  pub entries : ℕ

abbrev pub offset_table : ℕ → ℕ → ℕ → OffsetTable
offset_table w t v = record { width = w; start = t; entries = v }

-- the bytes from one place up to another
pub record Span : Type 0 where
  pub from : ℕ
  pub up_to : ℕ

abbrev pub span : ℕ → ℕ → Span
span a e = record { from = a; up_to = e }

-- the range of rank k, which is s, replaced by the bytes of c, in a row r with the table t, and the table written anew
abbrev pub range_edit : OffsetTable → ℕ → Cell → Span → List ℕ → List ℕ
range_edit t k c s r =
    splice t.start (t.start + t.entries * t.width)
    (to_table t.width (moved_offsets k c s.from s.up_to (from_table t.width t.entries (drop t.start r))))
    (splice s.from s.up_to (bytes c) r)

unfoldable pub varlen_edit : ℕ → ℕ → ℕ → ℕ → Cell → List ℕ → List ℕ
varlen_edit w t v k c r = range_edit (offset_table w t v) k c (span (range_start w t v k r) (range_end w t v k r)) r

-- ---- a fixed column, of z bytes at byte at: a set null leaves its slot as it is

abbrev pub slot_edit : ℕ → ℕ → Cell → List ℕ → List ℕ
slot_edit at z none r = r
slot_edit at z (some b) r = splice at (at + z) b r

-- ---- a column

-- "null bitmap, one bit a column, low bit first, set for null"
abbrev pub bit_edit : ℕ → Cell → List ℕ → List ℕ
bit_edit i c r = take bitmap_start r ++ put_bit_at (null_bit c) i (drop bitmap_start r)

-- column i, which has the shape s
abbrev pub column_edit : ℕ → Bool → List Shape → ℕ → Shape → Cell → List ℕ → List ℕ
column_edit w p ss i (Fixed z a) c r = slot_edit (slot_place w p ss i) z c r
column_edit w p ss i Varlen c r = varlen_edit w (table_start (length ss)) (varlens ss) (rank_of ss i) c r

unfoldable pub edited_row : ℕ → Bool → List Shape → ℕ → Cell → List ℕ → List ℕ
edited_row w p ss i c r = bit_edit i c (column_edit w p ss i (get_or ss i Varlen) c r)
