-- FORMAT 7.2. What a read gives for one column: null or a value, or 7 or 8. Every call that reads a row goes through
-- this.
use Rattle.error.specs.Result.{Result}
use Rattle.value.specs.declared.DataValue.{DataValue}
use Rattle.std.specs.Prelude.{ℕ, ◌+◌, ◌-◌, Bool, cond, List, map, eqb, length, take, drop, Err, None, Ok, Option, Some}
use Rattle.error.specs.declared.Refusal.TheVariants.{BadRange, NoValue}
use Rattle.laws.specs.Bits.{bit_at}
use Rattle.row_format.specs.Places.{varlens, rank_of, bitmap_start, table_start, slot_place}
use Rattle.row_layout.specs.declared.VarlenRange.{VarlenRange}
use Rattle.row_layout.specs.declared.VarlenRange.TheVariants as Range
use Rattle.row_layout.specs.Range.{varlen_range}
use Rattle.datatype.specs.declared.DataType.{DataType}
use Rattle.datatype.specs.Types.{size_of, is_varlen, shape_of}
use Rattle.datatype.specs.Check.{type_at}
use Rattle.value.specs.declared.DataValue.TheVariants.{Null}
use Rattle.stored_form.specs.Read.{read_slot}

-- 8: "a wanted column's bytes are no value of its type"
abbrev pub slot_value : ℕ → Option DataValue → Result DataValue
slot_value i (Some v) = Ok v
slot_value i None = Err (NoValue i)

-- the bytes from a up to e
abbrev pub read_bytes : DataType → ℕ → List ℕ → ℕ → ℕ → Result DataValue
read_bytes t i r a e = slot_value i (read_slot t a (take (e - a) (drop a r)))

-- 7: "a wanted Varchar range has start > end or end > row length"; an offset of 0 is a null, whatever the bit says
abbrev pub varlen_value : DataType → ℕ → List ℕ → VarlenRange → Result DataValue
varlen_value t i r Range.Null = Ok Null
varlen_value t i r (Range.Bytes a e) = read_bytes t i r a e
varlen_value t i r Range.Outside = Err (BadRange i)

-- "null bitmap, one bit a column, low bit first, set for null": column i of type t, whose range is q if it is a
-- Varchar, and whose slot starts at byte `at` of the row if it is not
abbrev pub column_with : DataType → ℕ → List ℕ → VarlenRange → ℕ → Result DataValue
column_with t i r q at =
    cond (eqb (bit_at i (drop bitmap_start r)) 1) (Ok Null)
    (cond (is_varlen t) (varlen_value t i r q) (read_bytes t i r at (at + size_of t)))

-- column i of a row r whose columns have the types ts, packed or padded, with offsets of w bytes
abbrev pub column_value : ℕ → Bool → List DataType → ℕ → List ℕ → Result DataValue
column_value w p ts i r =
    column_with (type_at ts i) i r
    (varlen_range w (table_start (length ts)) (varlens (map shape_of ts)) (rank_of (map shape_of ts) i) r)
    (slot_place w p (map shape_of ts) i)
