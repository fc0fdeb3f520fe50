-- What a stored value reads back as: itself; a text is the slot's range, a Char with its blanks, a Bit with its spare
-- bits cleared. FORMAT 5.2.
use Rattle.std.specs.Prelude.{ℕ, Bool, ◌||◌, List, eqb, length}
use Rattle.bit_utils.specs.Bits.{bytes_for}
use Rattle.datatype.specs.declared.DataType.{DataType}
use Rattle.datatype.specs.Types.{length_of}
use Rattle.value.specs.declared.DataValue.{DataValue}
use Rattle.value.specs.declared.DataValue.TheVariants as D
use Rattle.value.specs.Kinds.{kind_of}

-- the slot starts at `start` of the row; x is the value's text, or its packed bits
abbrev pub read_back : DataType → ℕ → DataValue → List ℕ → DataValue
read_back t start D.Null x = D.Null
read_back t start (D.SmallInt z) x = D.SmallInt z
read_back t start (D.Int z) x = D.Int z
read_back t start (D.BigInt z) x = D.BigInt z
read_back t start (D.Real b) x = D.Real b
read_back t start (D.DoublePrecision b) x = D.DoublePrecision b
read_back t start (D.Numeric n) x = D.Numeric n
read_back t start (D.Bool b) x = D.Bool b
read_back t start (D.Char r) x = D.Char (record { start = start; length = length_of t })
read_back t start (D.Varchar r) x = D.Varchar (record { start = start; length = length x })
read_back t start (D.Date z) x = D.Date z
read_back t start (D.Time z) x = D.Time z
read_back t start (D.Bit r) x = D.Bit (record { start = start; length = bytes_for (length_of t) })
read_back t start (D.Timestamp z) x = D.Timestamp z

-- whether a value has a text: 8 Char, 9 Varchar, 12 Bit
abbrev pub has_text : DataValue → Bool
has_text v = eqb (kind_of v) 8 || (eqb (kind_of v) 9 || eqb (kind_of v) 12)
