-- FORMAT 8.4, 8.5. What an accepted value puts into a column: null, or the stored form of a value that matches the type
-- and suits it.
use Rattle.std.specs.Prelude.{ℕ, true, List, ◌≡◌}
use Rattle.std.proofs.Math.Option.{none, some}
use Rattle.row_format.specs.Table.{Cell}
use Rattle.datatype.specs.declared.DataType.{DataType}
use Rattle.value.specs.declared.DataValue.{DataValue}
use Rattle.value.specs.Kinds.{matches}
use Rattle.value.specs.Ranges.{text_of}
use Rattle.value_list.specs.Records.{Sized}
use Rattle.stored_form.specs.Write.{accepted, stored_form}

-- the numbers of a value that comes from a list fit their kind (`Sized`)
pub data Writes (t : DataType) : Cell → Type 0 where
  null : Writes t none
  form : (v : DataValue) (area : List ℕ) → matches t v ≡ true → accepted t v area ≡ true → Sized v
      → Writes t (some (stored_form t v (text_of area v)))
