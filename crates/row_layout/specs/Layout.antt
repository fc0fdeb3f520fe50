-- FORMAT 3.3, 3.6. `RowLayout` against the layout's definitions on a list of shapes.
use Rattle.std.specs.Prelude.{ℕ, Bool, true, false, List, length}
use Rattle.row_format.specs.declared.Shape.{Shape}
use Rattle.row_format.specs.Places.{varlens, fixed_size}
use Rattle.row_layout.specs.declared.RowLayout.{RowLayout}

-- the layout of the rows of one sort of a schema with columns of these shapes
abbrev pub layout_of : Bool → List Shape → RowLayout
layout_of k ss =
    record {
      num_columns = length ss;
      num_varlen_cols = varlens ss;
      packed_size = fixed_size true ss;
      padded_size = fixed_size false ss;
      is_long =
          k;
    }

-- the bytes of the fixed columns, packed or padded
abbrev pub size_in : RowLayout → Bool → ℕ
size_in l true = l.packed_size
size_in l false = l.padded_size
