-- 01, "What each call hands back", Build: "1, 2, 10, then 11 and 12 by rising column, 13, 14"; Fresh: "1, 2, 14".
-- 02, request 1: "reading and building put that count for each text built or wanted". FORMAT 8.2, 8.3.
use Rattle.std.specs.Prelude.{ℕ, Bool, cond, List, [], ◌∷◌, map, ltb, length, replicate}
use Rattle.std.proofs.Math.Option.{none}
use Rattle.error.specs.declared.Refusal.TheVariants.{RowLimit}
use Rattle.error.specs.Answer.{Outcome, unchanged, placed, Counted, unchanged_both, placed_both}
use Rattle.error.specs.Result.{on_result}
use Rattle.row_format.specs.Places.{offset_width, row_limit}
use Rattle.row_format.specs.Table.{Cell}
use Rattle.row_format.specs.Row.{packed_marks, built_row}
use Rattle.datatype.specs.declared.DataType.{DataType}
use Rattle.datatype.specs.Types.{shape_of}
use Rattle.datatype.specs.Schema.{schema_of}
use Rattle.value.specs.declared.DataValue.{DataValue}
use Rattle.value_list.specs.Lists.{checked}
use Rattle.stored_form.specs.Points.{stored_points}
use Rattle.row_build.specs.Cells.{cells_from}

-- 13: "row would pass 65,535 bytes", the limit of short rows; long ones have theirs
abbrev pub row_placed : Bool → List ℕ → List ℕ → Outcome
row_placed k out r = cond (ltb (row_limit k) (length r)) (unchanged out RowLimit) (placed out r)

-- with the counts ns
abbrev pub row_placed_both : Bool → List ℕ → List ℕ → List ℕ → List ℕ → Counted
row_placed_both k out counts r ns =
    cond (ltb (row_limit k) (length r)) (unchanged_both out counts RowLimit) (placed_both out counts r ns)

-- the counts of the cells of columns of types ts
abbrev pub cells_points : List DataType → List Cell → List ℕ
cells_points [] cs = []
cells_points (t ∷ ts) [] = []
cells_points (t ∷ ts) (c ∷ cs) = stored_points t c ∷ cells_points ts cs

-- the packed row of a sort that values vs under types ts give: the answer, the bytes of `out` and the numbers of
-- `counts` afterwards
abbrev pub build_values : Bool → List DataType → List DataValue → List ℕ → List ℕ → List ℕ → Counted
build_values k ts vs area out counts =
    on_result (cells_from 0 ts vs area) (unchanged_both out counts)
    (λ cs. row_placed_both k out counts
    (built_row (offset_width k) (packed_marks k) (map shape_of ts) cs) (cells_points ts cs))

abbrev pub build_row : Bool → List DataType → List ℕ → List ℕ → List ℕ → List ℕ → Counted
build_row k ts list area out counts =
    on_result (checked k (length ts) (length area) list) (unchanged_both out counts)
    (λ vs. build_values k ts vs area out counts)

abbrev pub build_call : Bool → List ℕ → List ℕ → List ℕ → List ℕ → List ℕ → Counted
build_call k schema list area out counts =
    on_result (schema_of k schema) (unchanged_both out counts) (λ ts. build_row k ts list area out counts)

-- a row of nulls
abbrev pub fresh_row : Bool → List DataType → List ℕ
fresh_row k ts = built_row (offset_width k) (packed_marks k) (map shape_of ts) (replicate (length ts) none)

abbrev pub fresh_call : Bool → List ℕ → List ℕ → Outcome
fresh_call k schema out = on_result (schema_of k schema) (unchanged out) (λ ts. placed out (fresh_row k ts))
