-- For the proofs: the walk, as the code goes it. It carries the layout of all columns and that of the columns before
-- the one it has come to.
use Rattle.error.specs.Result.{Result}
use Rattle.value.specs.declared.DataValue.{DataValue}
use Rattle.std.specs.Prelude.{ℕ, ◌+◌, ◌≤◌, ◌<◌, Bool, true, false, List, ◌≡◌, length, Err, Ok}
use Rattle.row_format.specs.Places.{table_start, fixed_start, start_at, offset_width, row_limit}
use Rattle.row_layout.specs.declared.RowLayout.{RowLayout}
use Rattle.row_layout.specs.Layout.{size_in}
use Rattle.row_layout.specs.Range.{varlen_range}
use Rattle.row_layout.specs.InnerLayout.{Bounded, minimum_of}
use Rattle.datatype.specs.declared.DataType.{DataType}
use Rattle.datatype.specs.Types.{size_of, alignment_of, is_varlen, precision_of}
use Rattle.datatype.specs.Check.{type_at, types_in}
use Rattle.datatype.specs.InnerCheck.{Accepted, layout_before}
use Rattle.value.specs.Ranges.{range_of as textRange}
use Rattle.row_column.specs.declared.Column.{Column}
use Rattle.row_column.specs.Column.{column_with}
use Rattle.row_column.specs.Frame.{frame_with}

-- ---- a row r with layout l, packed or padded: its header, and the column of type t after those of layout b

abbrev pub walked_frame : RowLayout → List ℕ → Result Bool
walked_frame l r = frame_with l.is_long l.num_columns l.num_varlen_cols (minimum_of l) r

-- where its slot starts
abbrev pub walked_place : RowLayout → Bool → RowLayout → DataType → ℕ
walked_place l p b t =
    fixed_start (offset_width l.is_long) l.num_columns l.num_varlen_cols
    + start_at p (alignment_of t) (size_in b p)

abbrev pub walked_column : RowLayout → Bool → RowLayout → DataType → List ℕ → Result DataValue
walked_column l p b t r =
    column_with t b.num_columns r
    (varlen_range (offset_width l.is_long) (table_start l.num_columns) l.num_varlen_cols
    b.num_varlen_cols r)
    (walked_place l p b t)

-- ---- column i of a schema, as the walk comes to it

pub record Found (s : List ℕ) (i : ℕ) (c : Column) : Type 0 where
  pub layout : c.before ≡ layout_before (types_in s) i
  pub type_is : c.ty ≡ type_at (types_in s) i
  pub bounded : Bounded c.before
  pub digits : precision_of c.ty ≤ 38

-- ---- what the code needs: a row whose header suits its schema has what is looked at, and a value's text lies in it

pub record Framed (s : List ℕ) (l : RowLayout) (p : Bool) (r : List ℕ) : Type 0 where
  pub accepted : Accepted s l
  pub long : minimum_of l p ≤ length r
  pub short : length r ≤ row_limit l.is_long

pub record Reachable (l : RowLayout) (p : Bool) (b : RowLayout) (t : DataType) (r : List ℕ) : Type 0 where
  pub whole : Bounded l
  pub before : Bounded b
  pub digits : precision_of t ≤ 38
  pub column : b.num_columns < l.num_columns
  pub table : fixed_start (offset_width l.is_long) l.num_columns l.num_varlen_cols ≤ length r
  pub rank : is_varlen t ≡ true → b.num_varlen_cols < l.num_varlen_cols
  pub slot : is_varlen t ≡ false → walked_place l p b t + size_of t ≤ length r

abbrev pub InRow : ℕ → Result DataValue → Type 0
InRow n (Ok v) = (textRange v).start + (textRange v).length ≤ n
InRow n (Err e) = Unit {0}
