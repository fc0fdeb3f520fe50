-- FORMAT 5.2. 01, "Stored forms": "Reading follows `from_bytes`". What a column's bytes, which stand at `start` of a
-- row, read as: the text area of the value is the row.
use Rattle.std.specs.Prelude.{ℕ, Bool, cond, List, eqb, length, get_or, take, drop, None, Option, Some, ℤ}
use Rattle.std.specs.Int.{w16, w32, w64}
use Rattle.std.proofs.Common.{to_z}
use Rattle.laws.specs.Bytes.{from_le}
use Rattle.text.specs.Rfc3629.{is_text}
use Rattle.text_limit.specs.Limit.{fits_text}
use Rattle.temporal.specs.Ranges.{is_date, is_timestamp}
use Rattle.temporal.specs.Time.{time_of}
use Rattle.numeric.specs.Packed.{decode_bcd}
use Rattle.datatype.specs.declared.DataType.{DataType}
use Rattle.datatype.specs.declared.DataType.TheVariants as T
use Rattle.value.specs.declared.TextRange.{TextRange}
use Rattle.value.specs.declared.NumericValue.{NumericValue}
use Rattle.value.specs.declared.DataValue.{DataValue}
use Rattle.value.specs.declared.DataValue.TheVariants as D
use Rattle.stored_form.specs.Number.{numeric_of}

-- a value if the bytes are one
abbrev pub value_if : Bool → DataValue → Option DataValue
value_if t v = cond t (Some v) None

-- "Precision 32 and 33 fill 17 bytes: where the digits or the sign fail, the slot is read as 16 bytes of two's
-- complement and a scale byte"
abbrev pub twos_complement : List ℕ → NumericValue
twos_complement bs =
    record { high = to_z w64 (from_le (take 8 (drop 8 bs))); low = from_le (take 8 bs); scale = get_or bs 16 0 }

abbrev pub decoded : ℕ → List ℕ → Option (Bool × ℕ) → Option DataValue
decoded s bs (Some r) = Some (D.Numeric (numeric_of r.0 r.1 s))
decoded s bs None = value_if (eqb (length bs) 17) (D.Numeric (twos_complement bs))

abbrev pub timed : Option ℤ → Option DataValue
timed (Some z) = Some (D.Time z)
timed None = None

abbrev pub whole : ℕ → List ℕ → TextRange
whole start bs = record { start = start; length = length bs }

-- "Bool is true for any non-zero byte"; "a stored Date or Timestamp outside its range gives 8"
abbrev pub read_slot : DataType → ℕ → List ℕ → Option DataValue
read_slot T.SmallInt start bs = Some (D.SmallInt (to_z w16 (from_le bs)))
read_slot T.Int start bs = Some (D.Int (to_z w32 (from_le bs)))
read_slot T.BigInt start bs = Some (D.BigInt (to_z w64 (from_le bs)))
read_slot T.Real start bs = Some (D.Real (from_le bs))
read_slot T.DoublePrecision start bs = Some (D.DoublePrecision (from_le bs))
read_slot (T.Numeric p s) start bs = decoded s bs (decode_bcd p bs)
read_slot (T.Decimal p s) start bs = decoded s bs (decode_bcd p bs)
read_slot T.Bool start bs = Some (D.Bool (cond (eqb (get_or bs 0 0) 0) 0 1))
read_slot (T.Char n) start bs = value_if (is_text bs) (D.Char (whole start bs))
read_slot (T.Character n) start bs = value_if (is_text bs) (D.Char (whole start bs))
read_slot (T.Varchar p n) start bs = value_if (fits_text p n bs) (D.Varchar (whole start bs))
read_slot T.Date start bs = value_if (is_date (to_z w32 (from_le bs))) (D.Date (to_z w32 (from_le bs)))
read_slot T.Time start bs = timed (time_of (to_z w64 (from_le bs)))
read_slot (T.Bit n) start bs = Some (D.Bit (whole start bs))
read_slot T.Timestamp start bs = value_if (is_timestamp (to_z w64 (from_le bs))) (D.Timestamp (to_z w64 (from_le bs)))
