-- For the proofs: where a walk over the columns stands, and a column's record written there.
use Rattle.error.specs.Result.{Result}
use Rattle.std.specs.Prelude.{ℕ, ◌+◌, ◌≤◌, ◌<◌, Bool, List, ◌≡◌, length, Err, Ok}
use Rattle.std.proofs.lemmas.List.Edits.{sets}
use Rattle.error.specs.declared.Refusal.{Refusal}
use Rattle.row_format.specs.Places.{row_limit}
use Rattle.row_layout.specs.declared.RowLayout.{RowLayout}
use Rattle.datatype.specs.Schema.{column_record_at}
use Rattle.datatype.specs.Check.{type_at, types_in}
use Rattle.datatype.specs.InnerSteps.{type_in}
use Rattle.value.specs.declared.DataValue.{DataValue}
use Rattle.value_list.specs.Records.{record_of}
use Rattle.row_column.specs.InnerWalk.{Reachable}

-- a column's record, for rows of a sort, written at `end`, with the count f of its value
abbrev pub stepped : Bool → List ℕ → ℕ → (DataValue → ℕ) → Result DataValue → Result (ℕ × ℕ) × List ℕ
stepped k buf end f (Ok v) = (Ok ((end + length (record_of k v)), (f v)), sets buf end (record_of k v))
stepped k buf end f (Err e) = (Err e, buf)

-- the count of what is no text
abbrev pub no_points : DataValue → ℕ
no_points v = 0

-- what the walk has come to: a record of the schema, and room for the column's own
pub record DecodeAt (s : List ℕ) (at : ℕ) (l : RowLayout) (p : Bool) (b : RowLayout) (r buf : List ℕ) (end : ℕ) : Type
    0 where
  pub here : at < length s
  pub few : b.num_columns < 256
  pub good : (e : Refusal) → column_record_at s at ≡ Err e → ⊥
  pub typed : type_in (column_record_at s at) ≡ type_at (types_in s) b.num_columns
  pub reach : Reachable l p b (type_at (types_in s) b.num_columns) r
  pub short : length r ≤ row_limit l.is_long
  pub room : end + 18 ≤ length buf
