-- FORMAT 7.1. 01, Read: "1, 2, 4, 3 (four bytes), 5, 6, 3 (minimum), then 7 and 8 by rising column, 14". "A read
-- answers with such a list whose text area is the row itself." 02, request 1: "reading and building put that count for
-- each text built or wanted".
use Rattle.value.specs.declared.DataValue.{DataValue}
use Rattle.std.specs.Prelude.{ℕ, zero, suc, Bool, true, false, cond, List, [], ◌∷◌, map, eqb, length, Err, Ok}
use Rattle.row_format.specs.Places.{offset_width}
use Rattle.row_format.specs.Header.{is_long}
use Rattle.error.specs.Answer.{Counted, unchanged_both, placed_both}
use Rattle.error.specs.Result.{on_result, before, Result}
use Rattle.datatype.specs.declared.DataType.{DataType}
use Rattle.datatype.specs.Schema.{schema_of}
use Rattle.value.specs.declared.DataValue.TheVariants.{Null}
use Rattle.value_list.specs.Lists.{Values, list_of}
use Rattle.stored_form.specs.Points.{points_in}
use Rattle.row_column.specs.Frame.{frame_of, on_frame}
use Rattle.row_column.specs.Column.{column_value}

-- whether a column is among the wanted ones, whose numbers come in any order, and some more than once; "unknown
-- column numbers ignored"
abbrev pub is_wanted : List ℕ → ℕ → Bool
is_wanted [] i = false
is_wanted (w ∷ ws) i = cond (eqb w i) true (is_wanted ws i)

-- "null for an unwanted column"
abbrev pub wanted_value : Bool → Result DataValue → Result DataValue
wanted_value wanted c = cond wanted c (Ok Null)

-- the first refusal, by rising column, decides
abbrev pub on_column : Result DataValue → Values → Values
on_column (Ok v) rest = before v rest
on_column (Err e) rest = Err e

-- column i of a row r of columns ts, and the n columns from it on; `wanted` tells which are
abbrev pub read_from : ℕ → Bool → List DataType → (ℕ → Bool) → List ℕ → ℕ → ℕ → Values
read_from w p ts wanted r i zero = Ok []
read_from w p ts wanted r i (suc n) =
    on_column (wanted_value (wanted i) (column_value w p ts i r)) (read_from w p ts wanted r (suc i) n)

-- ---- the whole call: the answer, the bytes of `out` and the numbers of `counts` afterwards

abbrev pub hand_out : Bool → List ℕ → List ℕ → List ℕ → Values → Counted
hand_out k out counts r (Ok vs) = placed_both out counts (list_of k vs) (map (points_in r) vs)
hand_out k out counts r (Err e) = unchanged_both out counts e

-- a row r that is taken as of sort k
abbrev pub read_row : Bool → List DataType → List ℕ → List ℕ → List ℕ → List ℕ → Counted
read_row k ts r ws out counts =
    on_frame (frame_of k ts r) (unchanged_both out counts)
    (λ p. hand_out k out counts r (read_from (offset_width k) p ts (is_wanted ws) r 0 (length ts)))

-- 02, request 5: "On a read or edit the row's own mark tells the sort", also the sort by whose limit 2 is judged
abbrev pub read_call : List ℕ → List ℕ → List ℕ → List ℕ → List ℕ → Counted
read_call schema r ws out counts =
    on_result (schema_of (is_long r) schema) (unchanged_both out counts) (λ ts. read_row (is_long r) ts r ws out counts)
