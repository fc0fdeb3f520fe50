-- 01, "Schema and value bytes": "8 Char, 9 Varchar and 12 Bit 4 (start, length in the text area, two bytes each [..])".
-- FORMAT 4.1, 4.2.
use Rattle.std.specs.Prelude.{ℕ, ◌+◌, Bool, List, leb, take, drop}
use Rattle.value.specs.declared.TextRange.{TextRange}
use Rattle.value.specs.declared.DataValue.{DataValue}
use Rattle.value.specs.declared.DataValue.TheVariants as D

abbrev pub no_text : TextRange
no_text = record { start = 0; length = 0 }

-- a value's range in the text area
abbrev pub range_of : DataValue → TextRange
range_of D.Null = no_text
range_of (D.SmallInt x) = no_text
range_of (D.Int x) = no_text
range_of (D.BigInt x) = no_text
range_of (D.Real x) = no_text
range_of (D.DoublePrecision x) = no_text
range_of (D.Numeric x) = no_text
range_of (D.Bool x) = no_text
range_of (D.Char r) = r
range_of (D.Varchar r) = r
range_of (D.Date x) = no_text
range_of (D.Time x) = no_text
range_of (D.Bit r) = r
range_of (D.Timestamp x) = no_text

-- whether it lies in an area of n bytes, and the bytes it has there
abbrev pub in_area : ℕ → TextRange → Bool
in_area n r = leb (r.start + r.length) n

abbrev pub part : List ℕ → TextRange → List ℕ
part area r = take r.length (drop r.start area)

abbrev pub text_of : List ℕ → DataValue → List ℕ
text_of area v = part area (range_of v)

-- v with its text of n bytes at `at`
abbrev pub moved : ℕ → ℕ → DataValue → DataValue
moved at n D.Null = D.Null
moved at n (D.SmallInt z) = D.SmallInt z
moved at n (D.Int z) = D.Int z
moved at n (D.BigInt z) = D.BigInt z
moved at n (D.Real b) = D.Real b
moved at n (D.DoublePrecision b) = D.DoublePrecision b
moved at n (D.Numeric m) = D.Numeric m
moved at n (D.Bool b) = D.Bool b
moved at n (D.Char r) = D.Char (record { start = at; length = n })
moved at n (D.Varchar r) = D.Varchar (record { start = at; length = n })
moved at n (D.Date z) = D.Date z
moved at n (D.Time z) = D.Time z
moved at n (D.Bit r) = D.Bit (record { start = at; length = n })
moved at n (D.Timestamp z) = D.Timestamp z
