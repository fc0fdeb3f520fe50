-- FORMAT 5.4. 02, request 1: "that count for each text [..], as stored, 0 for all other columns".
use Rattle.std.specs.Prelude.{ℕ, cond, List}
use Rattle.std.proofs.Math.Option.{Option, none, some}
use Rattle.text.specs.Check.{points}
use Rattle.datatype.specs.declared.DataType.{DataType}
use Rattle.value.specs.declared.DataValue.{DataValue}
use Rattle.value.specs.Kinds.{holds_text, is_text_value}
use Rattle.value.specs.Ranges.{text_of}

-- of a value that was read from a row, which is its text area
abbrev pub points_in : List ℕ → DataValue → ℕ
points_in row v = cond (is_text_value v) (points (text_of row v)) 0

-- of what a column of type t is given: its stored form, or null
abbrev pub stored_points : DataType → Option (List ℕ) → ℕ
stored_points t none = 0
stored_points t (some x) = cond (holds_text t) (points x) 0
