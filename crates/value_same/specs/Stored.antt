-- What the same content says of stored forms: the words of `same-stored`. FORMAT 7.4.
use Rattle.std.specs.Prelude.{ℕ, ◌≡◌, List}
use Rattle.std.specs.Float.{Format, binary32, binary64}
use Rattle.laws.specs.Bytes.{from_le}
use Rattle.float.specs.Patterns.{Alike}
use Rattle.datatype.specs.declared.DataType.{DataType}
use Rattle.value.specs.declared.DataValue.{DataValue}
use Rattle.value.specs.Kinds.{kind_of}
use Rattle.stored_form.specs.Write.{stored_form}

-- "4 Real", "5 DoublePrecision"
abbrev pub kind_for : Format → ℕ
kind_for binary32 = 4
kind_for binary64 = 5

-- two stored forms are equal, or those of two floats of one format: both NaNs or both zeros, if they are not equal
pub data SameStored (t : DataType) (v : DataValue) (x : List ℕ) (w : DataValue) (y : List ℕ) : Type 0 where
  equal_forms : stored_form t v x ≡ stored_form t w y → SameStored t v x w y
  alike_floats : (f : Format) → kind_of v ≡ kind_for f → kind_of w ≡ kind_for f
      → Alike f (from_le (stored_form t v x)) (from_le (stored_form t w y)) → SameStored t v x w y
