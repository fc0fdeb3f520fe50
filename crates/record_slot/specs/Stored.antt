-- 01's numbers 11 and 12: what a column holds of a value, or why the value is refused. FORMAT 8.3.
use Rattle.std.specs.Prelude.{ℕ, Bool, cond, List, eqb, Err, Ok}
use Rattle.std.proofs.Math.Option.{none, some}
use Rattle.error.specs.declared.Refusal.TheVariants.{WrongKind, Unsuitable}
use Rattle.error.specs.Result.{Result, on_result}
use Rattle.row_format.specs.Table.{Cell}
use Rattle.datatype.specs.declared.DataType.{DataType}
use Rattle.value.specs.declared.DataValue.{DataValue}
use Rattle.value.specs.Kinds.{kind_of, matches}
use Rattle.value.specs.Ranges.{text_of}
use Rattle.stored_form.specs.Write.{accepted, stored_form}

-- The stored form of a value for column i. 11: "value kind does not match the column's type"; a null matches none, so
-- this is also what a set asks. 12: "value does not suit the type, or its text range leaves the text area".
abbrev pub stored_in : ℕ → DataType → DataValue → List ℕ → Result (List ℕ)
stored_in i t v area =
    cond (matches t v) (cond (accepted t v area) (Ok (stored_form t v (text_of area v))) (Err (Unsuitable i)))
    (Err (WrongKind i))

-- "0 null": every column may hold it
abbrev pub is_null : DataValue → Bool
is_null v = eqb (kind_of v) 0

abbrev pub cell_in : ℕ → DataType → DataValue → List ℕ → Result Cell
cell_in i t v area = cond (is_null v) (Ok none) (on_result (stored_in i t v area) Err (λ b. Ok (some b)))
