-- FORMAT 2.3. What the check of a schema hands back, and what the calls do with it.
use Rattle.std.specs.Prelude.{ℕ, Bool, false, List, [], map, get_or, Err, Ok}
use Rattle.row_layout.specs.declared.RowLayout.{RowLayout}
use Rattle.row_layout.specs.Layout.{layout_of}
use Rattle.datatype.specs.declared.DataType.{DataType}
use Rattle.datatype.specs.declared.DataType.TheVariants.{Varchar}
use Rattle.datatype.specs.Types.{shape_of}
use Rattle.datatype.specs.Schema.{Parsed, column_records}

-- column i's type; the layout of all columns, for rows of a sort
abbrev pub type_at : List DataType → ℕ → DataType
type_at ts i = get_or ts i (Varchar false 0)

abbrev pub layout_for : Bool → List DataType → RowLayout
layout_for k ts = layout_of k (map shape_of ts)

-- the columns that records say, none where they are refused
abbrev pub columns_of : Parsed → List DataType
columns_of (Ok ts) = ts
columns_of (Err r) = []

unfoldable pub types_in : List ℕ → List DataType
types_in s = columns_of (column_records 256 s 0)
