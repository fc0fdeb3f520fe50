-- For the proofs: what the inner functions hand on.
use Rattle.std.specs.Prelude.{ℕ, ◌+◌, ◌*◌, ◌/◌, ◌≤◌, ◌<◌, Bool, true, false, cond, List, [], ◌++◌, map, ◌≡◌, length, replicate, Err, Ok}
use Rattle.std.proofs.Math.Option.{none, some}
use Rattle.std.proofs.lemmas.List.Edits.{sets}
use Rattle.error.specs.Result.{Result}
use Rattle.laws.specs.Bytes.{to_le}
use Rattle.row_format.specs.Places.{offset_width, row_limit, bitmap_start, bitmap_size}
use Rattle.row_format.specs.Table.{Cell, payloads}
use Rattle.row_format.specs.Row.{packed_marks, bitmap, varlen_cells, built_row}
use Rattle.row_format.specs.Edit.{bit_edit}
use Rattle.row_layout.specs.declared.RowLayout.{RowLayout}
use Rattle.row_layout.specs.InnerLayout.{minimum_of}
use Rattle.datatype.specs.declared.DataType.{DataType}
use Rattle.datatype.specs.Types.{size_of, is_varlen, shape_of, precision_of}
use Rattle.datatype.specs.Check.{types_in}
use Rattle.datatype.specs.InnerCheck.{Accepted}
use Rattle.value.specs.declared.TextRange.{TextRange}
use Rattle.value.specs.declared.DataValue.{DataValue}
use Rattle.value.specs.Kinds.{matches}
use Rattle.value.specs.Ranges.{text_of}
use Rattle.value_list.specs.Lists.{Values, values_of}
use Rattle.stored_form.specs.Write.{accepted as holds, stored_form}
use Rattle.record_slot.specs.Stored.{is_null}
use Rattle.record_slot.specs.InnerSteps.{payload_added}
use Rattle.row_build.specs.Cells.{cells_from}
use Rattle.row_build.specs.Build.{cells_points, fresh_row}

-- the bytes of a row of nulls, by its layout: header, bits that are set and spare ones that are clear, zeros
abbrev pub null_bits : ℕ → List ℕ
null_bits n = bitmap (bitmap_size n) (replicate n none)

unfoldable pub null_row : RowLayout → List ℕ
null_row l =
    (to_le 2 l.num_columns ++ to_le 2 (l.num_varlen_cols + packed_marks l.is_long)) ++
    (null_bits l.num_columns ++
    replicate (l.num_varlen_cols * offset_width l.is_long + l.packed_size) 0)

-- ---- schema and value list, walked together

-- the values that a list says, none where it is refused
abbrev pub values_given : Values → List DataValue
values_given (Ok vs) = vs
values_given (Err e) = []

unfoldable pub values_in : List ℕ → List DataValue
values_in list = values_given (values_of list)

-- a schema that was accepted, and a list with a value for each column
pub record Buildable (s : List ℕ) (l : RowLayout) (list area : List ℕ) : Type 0 where
  pub accepted : Accepted s l
  pub taken : values_of list ≡ Ok (values_in list)
  pub count : length (values_in list) ≡ length (types_in s)
  pub short : length area ≤ row_limit l.is_long

-- ---- the first pass: the row's length

-- m bytes, and the payloads of the cells
abbrev pub measured : ℕ → List DataType → Result (List Cell) → Result ℕ
measured m ts (Ok cs) = Ok (m + length (payloads (varlen_cells (map shape_of ts) cs)))
measured m ts (Err e) = Err e

-- what the first pass says: the row's length or the first refusal where the list is good, and it is good where the
-- answer is Done
pub record Lengthed (s : List ℕ) (l : RowLayout) (list area : List ℕ) (r : Result ℕ) : Type 0 where
  pub good : Buildable s l list area → r
      ≡ measured (minimum_of l true) (types_in s) (cells_from 0 (types_in s) (values_in list) area)
  pub done : {n : ℕ} → r ≡ Ok n → Buildable s l list area

-- ---- the second pass: one column after another

-- x stored for column i: in its slot, or at the row's end with its offset; and its bit cleared
abbrev pub fixed_stored : ℕ → ℕ → List ℕ → List ℕ → List ℕ
fixed_stored i slot x out = bit_edit i (some x) (sets out slot x)

abbrev pub varlen_stored : Bool → ℕ → ℕ → List ℕ → ℕ → List ℕ → List ℕ
varlen_stored k i entry x end out = bit_edit i (some x) (sets (sets out entry (to_le (offset_width k) end)) end x)

-- the row's end and the output afterwards
abbrev pub column_stored : Bool → ℕ → ℕ → ℕ → DataType → DataValue → List ℕ → ℕ → List ℕ → ℕ × List ℕ
column_stored k i slot entry t v x end out =
    cond (is_null v) (end, out)
    (cond (is_varlen t) (end + length x, varlen_stored k i entry x end out) (end, fixed_stored i slot x out))

-- a payload of n bytes at the row's end, and a column's bit
pub record PayloadReady (k : Bool) (r : TextRange) (area : List ℕ) (entry end n : ℕ) : Type 0 where
  pub inside : r.start + r.length ≤ length area
  pub entry_in : entry + offset_width k ≤ n
  pub room : end + r.length ≤ n
  pub small : end + r.length ≤ row_limit k

pub record BitReady (columns i n : ℕ) : Type 0 where
  pub column : i < columns
  pub bit : bitmap_start + i / 8 < n

pub record Storable (k : Bool) (columns i slot entry : ℕ) (t : DataType) (v : DataValue) (area : List ℕ) (end n : ℕ)
    : Type 0 where
  pub bit : BitReady columns i n
  pub digits : precision_of t ≤ 38
  pub match : matches t v ≡ true
  pub suited : holds t v area ≡ true
  pub slot_in : is_varlen t ≡ false → slot + size_of t ≤ n
  pub entry_in : is_varlen t ≡ true → entry + offset_width k ≤ n
  pub payload : is_varlen t ≡ true → end + length (stored_form t v (text_of area v)) ≤ n
  pub end_fits : end + payload_added t (some (stored_form t v (text_of area v))) ≤ row_limit k

-- the cells, none where they are refused
abbrev pub cells_given : Result (List Cell) → List Cell
cells_given (Ok cs) = cs
cells_given (Err e) = []

abbrev pub cells_in : List ℕ → List ℕ → List ℕ → List Cell
cells_in s list area = cells_given (cells_from 0 (types_in s) (values_in list) area)

abbrev pub row_given : Bool → List ℕ → List ℕ → List ℕ → List ℕ
row_given k s list area = built_row (offset_width k) (packed_marks k) (map shape_of (types_in s)) (cells_in s list area)

abbrev pub counts_given : List ℕ → List ℕ → List ℕ → List ℕ
counts_given s list area = cells_points (types_in s) (cells_in s list area)

-- the row of nulls stands in the output, which has room for the row of the cells
pub record Fillable (s : List ℕ) (l : RowLayout) (list area out : List ℕ) : Type 0 where
  pub given : Buildable s l list area
  pub all : cells_from 0 (types_in s) (values_in list) area ≡ Ok (cells_in s list area)
  pub nulls : out ≡ sets out 0 (fresh_row l.is_long (types_in s))
  pub room : length (row_given l.is_long s list area) ≤ length out
  pub short : length (row_given l.is_long s list area) ≤ row_limit l.is_long
