-- FORMAT 5.1. 01, "Stored forms": which values a type holds, and the bytes of each. x is the value's text, or its
-- packed bits.
use Rattle.std.specs.Prelude.{ℕ, ◌-◌, ◌^◌, Bool, true, false, cond, List, [], ◌∷◌, ◌++◌, eqb, leb, ltb, length, replicate}
use Rattle.std.specs.Int.{w16, w32, w64}
use Rattle.std.proofs.Common.{of_z}
use Rattle.laws.specs.Bytes.{to_le}
use Rattle.text_limit.specs.Limit.{fits_text}
use Rattle.bit_utils.specs.Bits.{bytes_for, pack_bits, unpack_bits}
use Rattle.temporal.specs.Ranges.{is_date, is_time, is_timestamp}
use Rattle.numeric.specs.Packed.{encode_bcd}
use Rattle.datatype.specs.declared.DataType.{DataType}
use Rattle.datatype.specs.Types.{precision_of, scale_of, length_of, counts_points}
use Rattle.value.specs.declared.DataValue.{DataValue}
use Rattle.value.specs.declared.DataValue.TheVariants as D
use Rattle.value.specs.Ranges.{range_of, in_area, text_of}
use Rattle.stored_form.specs.Number.{is_negative, magnitude}

-- "the scale must equal the type's", and the digits must do: the least 128-bit number has 39
abbrev pub fits_digits : DataType → ℕ → ℕ → Bool
fits_digits t s m = cond (eqb s (scale_of t)) (ltb m (10 ^ precision_of t)) false

-- 12: "value does not suit the type"
abbrev pub suits : DataType → DataValue → List ℕ → Bool
suits t D.Null x = false
suits t (D.SmallInt z) x = true
suits t (D.Int z) x = true
suits t (D.BigInt z) x = true
suits t (D.Real b) x = true
suits t (D.DoublePrecision b) x = true
suits t (D.Numeric n) x = fits_digits t n.scale (magnitude n.high n.low)
suits t (D.Bool b) x = leb b 1
suits t (D.Char r) x = fits_text false (length_of t) x
suits t (D.Varchar r) x = fits_text (counts_points t) (length_of t) x
suits t (D.Date z) x = is_date z
suits t (D.Time z) x = is_time z
suits t (D.Bit r) x = eqb (length x) (bytes_for (length_of t))
suits t (D.Timestamp z) x = is_timestamp z

-- "or its text range leaves the text area"
abbrev pub accepted : DataType → DataValue → List ℕ → Bool
accepted t v area = cond (in_area (length area) (range_of v)) (suits t v (text_of area v)) false

-- "Integers and floats: their bits." "Bool and Time: the value's body." "Char: blanks up to n. Varchar: the text's
-- bytes." "Bit: .. spare bits .. zero when written"
abbrev pub stored_form : DataType → DataValue → List ℕ → List ℕ
stored_form t D.Null x = []
stored_form t (D.SmallInt z) x = to_le 2 (of_z w16 z)
stored_form t (D.Int z) x = to_le 4 (of_z w32 z)
stored_form t (D.BigInt z) x = to_le 8 (of_z w64 z)
stored_form t (D.Real b) x = to_le 4 b
stored_form t (D.DoublePrecision b) x = to_le 8 b
stored_form t (D.Numeric n) x = encode_bcd (precision_of t) (is_negative n.high) (magnitude n.high n.low)
stored_form t (D.Bool b) x = b ∷ []
stored_form t (D.Char r) x = x ++ replicate (length_of t - length x) 0x20
stored_form t (D.Varchar r) x = x
stored_form t (D.Date z) x = to_le 4 (of_z w32 z)
stored_form t (D.Time z) x = to_le 8 (of_z w64 z)
stored_form t (D.Bit r) x = pack_bits (length_of t) (unpack_bits (length_of t) x)
stored_form t (D.Timestamp z) x = to_le 8 (of_z w64 z)
