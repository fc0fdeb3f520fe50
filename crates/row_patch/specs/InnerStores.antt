-- The row that the stores of a column leave, by the numbers that the code has at hand; and what the code needs of them.
use Rattle.std.specs.Prelude.{ℕ, ◌+◌, ◌*◌, ◌-◌, ◌≤◌, ◌<◌, ◌≡◌, Bool, true, cond, List, ◌++◌, length, take, drop}
use Rattle.laws.specs.Bytes.{entry_at}
use Rattle.laws.specs.Bits.{put_bit_at}
use Rattle.row_format.specs.Places.{bitmap_start, table_start, offset_width, row_limit}
use Rattle.row_format.specs.Table.{Cell}
use Rattle.row_format.specs.Edit.{Span, span, offset_table, range_edit, slot_edit, bit_edit}
use Rattle.row_layout.specs.declared.RowLayout.{RowLayout}
use Rattle.datatype.specs.declared.DataType.{DataType}
use Rattle.datatype.specs.Types.{size_of, is_varlen, precision_of}
use Rattle.value.specs.declared.DataValue.{DataValue}
use Rattle.value.specs.Kinds.{matches}
use Rattle.value.specs.Ranges.{text_of}
use Rattle.stored_form.specs.Write.{accepted, stored_form}
use Rattle.row_column.specs.InnerWalk.{walked_place, Reachable}

-- the stored form of a value whose text is in the area
abbrev pub form_of : DataType → DataValue → List ℕ → List ℕ
form_of t v area = stored_form t v (text_of area v)

-- the bit v put in column i's place of the bitmap
abbrev pub bit_put : ℕ → ℕ → List ℕ → List ℕ
bit_put v i r = take bitmap_start r ++ put_bit_at v i (drop bitmap_start r)

-- the column of type t that comes after those of layout b set to c, in a row r with layout l: a Varchar's range is s
abbrev pub column_set : RowLayout → Bool → RowLayout → DataType → Span → Cell → List ℕ → List ℕ
column_set l p b t s c r =
    cond (is_varlen t)
    (range_edit (offset_table (offset_width l.is_long) (table_start l.num_columns) l.num_varlen_cols)
    b.num_varlen_cols c s r)
    (slot_edit (walked_place l p b t) (size_of t) c r)

-- and its bit
abbrev pub row_set : RowLayout → Bool → RowLayout → DataType → Span → Cell → List ℕ → List ℕ
row_set l p b t s c r = bit_edit b.num_columns c (column_set l p b t s c r)

-- ---- what the code needs

-- a value that the type holds
pub record Suited (t : DataType) (v : DataValue) (area : List ℕ) : Type 0 where
  pub digits : precision_of t ≤ 38
  pub kind : matches t v ≡ true
  pub holds : accepted t v area ≡ true

-- in a row of `row-length` bytes those of `range` make way for `size` others
pub record Change : Type 0 where
  pub row-length : ℕ
  pub range : Span
  pub size : ℕ

abbrev pub change : ℕ → ℕ → ℕ → ℕ → Change
change n a e z = record { row-length = n; range = span a e; size = z }

-- the length of the row afterwards
abbrev pub length_after : Change → ℕ
length_after x = x.range.from + x.size + (x.row-length - x.range.up_to)

-- the row stands in the buffer, and so does what it becomes
pub record Replaceable (x : Change) (buf : List ℕ) : Type 0 where
  pub range : x.range.from ≤ x.range.up_to
  pub within : x.range.up_to ≤ x.row-length
  pub inside : x.row-length ≤ length buf
  pub room : length_after x ≤ length buf

-- which are the range of a rank, behind the table, in a row of sort k; the higher offsets are not before its end
pub record RangeReady (k : Bool) (t v rank : ℕ) (x : Change) (buf : List ℕ) : Type 0 where
  pub replaceable : Replaceable x buf
  pub ranked : rank < v
  pub behind : t + v * offset_width k ≤ x.range.from
  pub short : length_after x ≤ row_limit k
  pub higher : (j : ℕ) → rank < j → j < v → (entry_at (offset_width k) t j (take x.row-length buf) ≡ 0 → ⊥)
      → (x.range.up_to ≤ entry_at (offset_width k) t j (take x.row-length buf))
      × (entry_at (offset_width k) t j (take x.row-length buf) ≤ x.row-length)

-- a column of a row in the buffer, to be set to `size` bytes
pub record Editable (l : RowLayout) (p : Bool) (b : RowLayout) (t : DataType) (x : Change) (buf : List ℕ) : Type 0 where
  pub reach : Reachable l p b t (take x.row-length buf)
  pub inside : x.row-length ≤ length buf
  pub range : is_varlen t ≡ true
      → RangeReady l.is_long (table_start l.num_columns) l.num_varlen_cols b.num_varlen_cols x buf
