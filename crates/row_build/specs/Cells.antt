-- 01, Build: "11 and 12 by rising column": what a row holds of given values, or the first refusal. FORMAT 8.3.
use Rattle.std.specs.Prelude.{ℕ, ◌+◌, List, [], ◌∷◌, Err, Ok}
use Rattle.error.specs.Result.{Result, before}
use Rattle.row_format.specs.Table.{Cell}
use Rattle.datatype.specs.declared.DataType.{DataType}
use Rattle.value.specs.declared.DataValue.{DataValue}
use Rattle.record_slot.specs.Stored.{cell_in}

-- the cells of columns i, i + 1, ..
abbrev pub on_cell : Result Cell → Result (List Cell) → Result (List Cell)
on_cell (Ok c) rest = before c rest
on_cell (Err e) rest = Err e

abbrev pub cells_from : ℕ → List DataType → List DataValue → List ℕ → Result (List Cell)
cells_from i [] vs area = Ok []
cells_from i (t ∷ ts) [] area = Ok []
cells_from i (t ∷ ts) (v ∷ vs) area = on_cell (cell_in i t v area) (cells_from (i + 1) ts vs area)
