-- FORMAT 3.1, 3.2, 3.4, 3.6, 3.8. 01, "Layout", the facts for writing: what stands where in a packed row that is laid
-- out of cells, whatever number of bytes an offset has. 02, request 5: "the layout facts are shown for any offset width
-- that holds the row's length".
use Rattle.std.specs.Prelude.{ℕ, ◌+◌, ◌*◌, ◌^◌, ◌<◌, true, List, [], ◌≡◌, length, get_or, take, drop}
use Rattle.std.proofs.Math.Option.{none, some}
use Rattle.laws.specs.Bytes.{entry_at}
use Rattle.laws.specs.Bits.{bit_at}
use Rattle.row_format.specs.declared.Shape.{Shape}
use Rattle.row_format.specs.declared.Shape.TheVariants.{Fixed, Varlen}
use Rattle.row_format.specs.Places.{varlens, rank_of, bitmap_start, bitmap_size, table_start, slot_place, minimum}
use Rattle.row_format.specs.Table.{Cell, bytes, payloads, offset, range_end}
use Rattle.row_format.specs.Row.{null_bit, varlen_cells, slot_of, slot_size, built_row}
use Rattle.row_format.specs.Header.{column_count, varlen_field}

-- a cell for each column, of its slot's size if it is a fixed one that is not null
pub record CellsFit (ss : List Shape) (cs : List Cell) : Type 0 where
  pub many : length cs ≡ length ss
  pub slots : (i z a : ℕ) (b : List ℕ) → i < length ss → get_or ss i Varlen ≡ Fixed z a → get_or cs i none ≡ some b
      → length b ≡ z

-- where the payload of column i stands: after those of lower rank
abbrev pub payload_place : ℕ → List Shape → List Cell → ℕ → ℕ
payload_place w ss cs i = minimum w true ss + length (payloads (take (rank_of ss i) (varlen_cells ss cs)))

-- r is the row of the cells cs, of columns ss, with offsets of w bytes; marks is added to its Varchar count
pub record WrittenRow (w marks : ℕ) (ss : List Shape) (cs : List Cell) (r : List ℕ) : Type 0 where
  -- "Column count (2 bytes); Varchar count with 0x8000 for packed (2)"
  pub column-count : column_count r ≡ length ss
  pub varlen_count : varlen_field r ≡ varlens ss + marks
  -- "null bitmap, one bit a column, low bit first, set for null"; those past the last column are 0
  pub bit : (i : ℕ) → i < bitmap_size (length ss) * 8
      → bit_at i (drop bitmap_start r) ≡ null_bit (get_or cs i (some []))
  -- "fixed columns": the stored form in its slot, zeros for a null
  pub slot : (i : ℕ) → i < length ss
      → take (slot_size (get_or ss i Varlen)) (drop (slot_place w true ss i) r)
      ≡ slot_of (get_or ss i Varlen) (get_or cs i none)
  -- "Null Varchars have offset 0; an empty one has its own offset"
  pub entry : (i : ℕ) → i < length ss → get_or ss i Varlen ≡ Varlen
      → entry_at w (table_start (length ss)) (rank_of ss i) r ≡ offset (get_or cs i none) (payload_place w ss cs i)
  -- "payloads": the stored form, where its range is
  pub end : (i : ℕ) → i < length ss → get_or ss i Varlen ≡ Varlen
      → range_end w (table_start (length ss)) (varlens ss) (rank_of ss i) r
      ≡ payload_place w ss cs i + length (bytes (get_or cs i none))
  pub payload : (i : ℕ) → i < length ss → get_or ss i Varlen ≡ Varlen
      → take (length (bytes (get_or cs i none))) (drop (payload_place w ss cs i) r) ≡ bytes (get_or cs i none)
  -- and nothing past them
  pub long : length r ≡ minimum w true ss + length (payloads (varlen_cells ss cs))

-- the row that is built of cells, where the header's numbers fit their bytes and the row's length an offset
abbrev pub LayoutWritten : (w marks : ℕ) (ss : List Shape) (cs : List Cell) → Type 0
LayoutWritten w marks ss cs =
    CellsFit ss cs → length ss < 65536 → varlens ss + marks < 65536 → length (built_row w marks ss cs) < 256 ^ w
    → WrittenRow w marks ss cs (built_row w marks ss cs)
