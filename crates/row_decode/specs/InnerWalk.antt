-- For the proofs: the walk, as the code goes it.
use Rattle.std.specs.Prelude.{ℕ, Bool, List, [], ◌∷◌, Ok}
use Rattle.row_layout.specs.declared.RowLayout.{RowLayout}
use Rattle.row_layout.specs.InnerLayout.{with_column}
use Rattle.datatype.specs.declared.DataType.{DataType}
use Rattle.datatype.specs.Types.{shape_of}
use Rattle.value_list.specs.Lists.{Values}
use Rattle.row_column.specs.InnerWalk.{walked_column}
use Rattle.row_decode.specs.Read.{wanted_value, on_column}

-- the columns of types ts that come after those of layout b, in a row r with layout l; `wanted` tells which are
abbrev pub walked_read : RowLayout → Bool → (ℕ → Bool) → List ℕ → RowLayout → List DataType → Values
walked_read l p wanted r b [] = Ok []
walked_read l p wanted r b (t ∷ ts) =
    on_column (wanted_value (wanted b.num_columns) (walked_column l p b t r))
    (walked_read l p wanted r (with_column b (shape_of t)) ts)
