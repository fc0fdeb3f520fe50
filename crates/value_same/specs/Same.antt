-- FORMAT 7.4. 01, "Same content (added) compares two rows of one schema by what a read of all columns gives, null or a
-- value: a Numeric by number and scale, a Bit by its n bits, text by bytes. Real and DoublePrecision compare by value,
-- so the two zeros are equal, and every NaN equals every NaN." Here two values of one column, whose declared length is
-- n; x and y are the bytes of their ranges.
use Rattle.std.specs.Prelude.{ℕ, Bool, false, cond, List, eqb}
use Rattle.std.specs.Float.{binary32, binary64}
use Rattle.laws.specs.Bytes.{from_le, same_bytes}
use Rattle.float.specs.Same.{same_value}
use Rattle.bit_utils.specs.Bits.{unpack_bits}
use Rattle.value.specs.declared.DataValue.{DataValue}
use Rattle.value.specs.Kinds.{kind_of}
use Rattle.value_list.specs.Records.{body_of}

-- two values of kind k: "4 Real" and "5 DoublePrecision" by the floats that their bodies hold, "8 Char, 9 Varchar and
-- 12 Bit" by what stands in their ranges, all others by their bodies. A Numeric's is "16 bytes two's complement, scale
-- byte"
abbrev pub same_of_kind : ℕ → ℕ → DataValue → List ℕ → DataValue → List ℕ → Bool
same_of_kind k n v x w y =
    cond (eqb k 4) (same_value binary32 (from_le (body_of v)) (from_le (body_of w)))
    (cond (eqb k 5) (same_value binary64 (from_le (body_of v)) (from_le (body_of w)))
    (cond (eqb k 8) (same_bytes x y)
    (cond (eqb k 9) (same_bytes x y)
    (cond (eqb k 12) (same_bytes (unpack_bits n x) (unpack_bits n y))
    (same_bytes (body_of v) (body_of w))))))

-- "null or a value": values of different kinds differ
abbrev pub same_content : ℕ → DataValue → List ℕ → DataValue → List ℕ → Bool
same_content n v x w y = cond (eqb (kind_of v) (kind_of w)) (same_of_kind (kind_of v) n v x w y) false
