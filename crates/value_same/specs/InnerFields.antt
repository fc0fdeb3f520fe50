-- For the proofs: the comparison as the code makes it, by numbers of at most 64 bits, and what it requires.
use Rattle.std.specs.Prelude.{ℕ, Bool, true, false, cond, List, [], eqb, length, get_or, take, drop}
use Rattle.std.specs.Float.{binary32, binary64}
use Rattle.laws.specs.Bytes.{from_le, same_bytes}
use Rattle.float.specs.Same.{same_value}
use Rattle.bit_utils.specs.Bits.{bytes_for, unpack_bits}
use Rattle.value.specs.declared.DataValue.{DataValue}
use Rattle.value.specs.Kinds.{kind_of}
use Rattle.value.specs.Ranges.{range_of, in_area}
use Rattle.value_list.specs.Records.{body_of}
use Rattle.stored_form.specs.ReadBack.{has_text}
use Rattle.value_same.specs.declared.Content.{Content}

-- the body of a value without a text
abbrev pub number_bytes : DataValue → List ℕ
number_bytes v = cond (has_text v) [] (body_of v)

-- its first eight bytes, the next eight and the last
abbrev pub content_of : DataValue → Content
content_of v =
    record {
      word = from_le (take 8 (number_bytes v));
      upper = from_le (take 8 (drop 8 (number_bytes v)));
      scale = get_or (number_bytes v) 16 0;
    }

-- a Real's bits
abbrev pub real_of : DataValue → ℕ
real_of v = cond (eqb (kind_of v) 4) (from_le (body_of v)) 0

abbrev pub same_number : Content → Content → Bool
same_number a b =
    cond (eqb a.word b.word) (cond (eqb a.upper b.upper) (eqb a.scale b.scale) false) false

abbrev pub same_fields : ℕ → ℕ → DataValue → List ℕ → DataValue → List ℕ → Bool
same_fields k n v x w y =
    cond (eqb k 4) (same_value binary32 (real_of v) (real_of w))
    (cond (eqb k 5) (same_value binary64 (content_of v).word (content_of w).word)
    (cond (eqb k 12) (same_bytes (unpack_bits n x) (unpack_bits n y))
    (cond (same_bytes x y) (same_number (content_of v) (content_of w)) false)))

abbrev pub same_by_fields : ℕ → DataValue → List ℕ → DataValue → List ℕ → Bool
same_by_fields n v x w y = cond (eqb (kind_of v) (kind_of w)) (same_fields (kind_of v) n v x w y) false

-- a value that was read from a row: its range lies there, and a Bit's has "exactly the bytes that n bits fill"
abbrev pub fills_bits : ℕ → DataValue → Bool
fills_bits n v = cond (eqb (kind_of v) 12) (eqb (range_of v).length (bytes_for n)) true

abbrev pub stands_in : ℕ → DataValue → List ℕ → Bool
stands_in n v row = cond (in_area (length row) (range_of v)) (fills_bits n v) false
