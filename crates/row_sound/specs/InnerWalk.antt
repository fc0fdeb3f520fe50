-- For the proofs: the walk, as the code goes it.
use Rattle.std.specs.Prelude.{ℕ, Bool, true, false, cond, List, [], ◌∷◌, eqb, drop, None, Option, Some}
use Rattle.laws.specs.Bits.{bit_at}
use Rattle.laws.specs.Bytes.{entry_at}
use Rattle.row_format.specs.Places.{bitmap_start, table_start, offset_width}
use Rattle.row_layout.specs.declared.RowLayout.{RowLayout}
use Rattle.row_layout.specs.InnerLayout.{minimum_of, no_columns, with_column}
use Rattle.datatype.specs.declared.DataType.{DataType}
use Rattle.datatype.specs.Types.{shape_of}
use Rattle.row_column.specs.InnerWalk.{walked_column}
use Rattle.row_sound.specs.Sound.{sound_with, first_payload}

-- the column of type t that comes after those of layout b, in a row r with layout l, packed or padded
unfoldable pub walked_sound : RowLayout → Bool → RowLayout → DataType → List ℕ → Bool
walked_sound l p b t r =
    sound_with t (walked_column l p b t r)
    (entry_at (offset_width l.is_long) (table_start l.num_columns) b.num_varlen_cols r)
    (eqb (bit_at b.num_columns (drop bitmap_start r)) 1)

-- the columns of types ts that come after those of layout b
abbrev pub walked_columns : RowLayout → Bool → List ℕ → RowLayout → List DataType → Bool
walked_columns l p r b [] = true
walked_columns l p r b (t ∷ ts) =
    cond (walked_sound l p b t r) (walked_columns l p r (with_column b (shape_of t)) ts) false

-- the first payload
abbrev pub walked_first : RowLayout → List ℕ → ℕ
walked_first l r =
    first_payload (offset_width l.is_long) (table_start l.num_columns) l.num_varlen_cols r

-- behind its header
abbrev pub walked_soundness : RowLayout → Bool → List DataType → List ℕ → Option Bool
walked_soundness l p ts r =
    cond (cond (walked_columns l p r no_columns ts) (eqb (walked_first l r) (minimum_of l p)) false) (Some p) None
