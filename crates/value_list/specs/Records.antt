-- FORMAT 4.1, 4.6. 01, "Schema and value bytes": "A record is one byte of kind, then a body whose length the kind
-- fixes; numbers are little-endian." 02, request 5, has three more kinds.
use Rattle.error.specs.Result.{Result}
use Rattle.std.specs.Prelude.{ℕ, ◌+◌, ◌^◌, ◌<◌, Bool, true, false, cond, List, [], ◌∷◌, ◌++◌, eqb, ltb, length, get_or, take, drop, Err, Ok}
use Rattle.std.specs.Int.{w8, w16, w32, w64}
use Rattle.std.proofs.Common.{Fits, SFits, to_z, of_z}
use Rattle.error.specs.declared.Refusal.TheVariants.{BadValueList}
use Rattle.laws.specs.Bytes.{to_le, from_le}
use Rattle.value.specs.declared.DataValue.{DataValue}
use Rattle.value.specs.declared.DataValue.TheVariants as D
use Rattle.value.specs.declared.NumericValue.{NumericValue}
use Rattle.value.specs.declared.TextRange.{TextRange}
use Rattle.row_format.specs.Places.{offset_width}
use Rattle.value.specs.Kinds.{kind_of, is_range_kind, long_kind, plain_kind, is_long_kind, is_value_kind}
use Rattle.value.specs.Ranges.{range_of}

-- "1 SmallInt 2; 2 Int 4; 3 BigInt 8; 4 Real 4; 5 DoublePrecision 8; 6 Numeric 17 [..]; 7 Bool 1 [..]; 8 Char, 9
-- Varchar and 12 Bit 4 [..]; 10 Date 4; 11 Time 8; 13 Timestamp 8"; "0 null 0". 02, request 5: "17, 18 and 19 [..] with
-- start and length of four bytes each"
abbrev pub body_length : ℕ → ℕ
body_length k =
    cond (eqb k 1) 2
    (cond (eqb k 2) 4
    (cond (eqb k 3) 8
    (cond (eqb k 4) 4
    (cond (eqb k 5) 8
    (cond (eqb k 6) 17
    (cond (eqb k 7) 1
    (cond (eqb k 8) 4
    (cond (eqb k 9) 4
    (cond (eqb k 10) 4
    (cond (eqb k 11) 8
    (cond (eqb k 12) 4
    (cond (eqb k 13) 8
    (cond (eqb k 17) 8
    (cond (eqb k 18) 8
    (cond (eqb k 19) 8
    0)))))))))))))))

-- ---- a record read

-- w bytes at a place
abbrev pub number_at : ℕ → List ℕ → ℕ → ℕ
number_at w s at = from_le (take w (drop at s))

-- "16 bytes two's complement, scale byte"
abbrev pub numeric_at : List ℕ → ℕ → NumericValue
numeric_at s at =
    record { high = to_z w64 (number_at 8 s (at + 8)); low = number_at 8 s at; scale = get_or s (at + 16) 0 }

-- "start, length in the text area, two bytes each", or four: w bytes each
abbrev pub range_at : ℕ → List ℕ → ℕ → TextRange
range_at w s at = record { start = number_at w s at; length = number_at w s (at + w) }

-- the body of a kind of 01's at a place, ranges of w bytes each. Any byte is a Bool's body here: one above 1 is 12,
-- with its column
abbrev pub value_at : ℕ → ℕ → List ℕ → ℕ → DataValue
value_at w k s at =
    cond (eqb k 1) (D.SmallInt (to_z w16 (number_at 2 s at)))
    (cond (eqb k 2) (D.Int (to_z w32 (number_at 4 s at)))
    (cond (eqb k 3) (D.BigInt (to_z w64 (number_at 8 s at)))
    (cond (eqb k 4) (D.Real (number_at 4 s at))
    (cond (eqb k 5) (D.DoublePrecision (number_at 8 s at))
    (cond (eqb k 6) (D.Numeric (numeric_at s at))
    (cond (eqb k 7) (D.Bool (get_or s at 0))
    (cond (eqb k 8) (D.Char (range_at w s at))
    (cond (eqb k 9) (D.Varchar (range_at w s at))
    (cond (eqb k 10) (D.Date (to_z w32 (number_at 4 s at)))
    (cond (eqb k 11) (D.Time (to_z w64 (number_at 8 s at)))
    (cond (eqb k 12) (D.Bit (range_at w s at))
    (cond (eqb k 13) (D.Timestamp (to_z w64 (number_at 8 s at)))
    D.Null))))))))))))

-- the bytes of each number of a range, by the kind
abbrev pub range_width : ℕ → ℕ
range_width k = offset_width (is_long_kind k)

-- 10: "unknown kind, cut"; else the value and the place after its record
abbrev pub record_of_kind : ℕ → List ℕ → ℕ → Result (DataValue × ℕ)
record_of_kind k s at =
    cond (is_value_kind k)
    (cond (ltb (length s) (at + 1 + body_length k)) (Err (BadValueList at))
    (Ok ((value_at (range_width k) (plain_kind k) s (at + 1)), (at + 1 + body_length k))))
    (Err (BadValueList at))

abbrev pub record_at : List ℕ → ℕ → Result (DataValue × ℕ)
record_at s at = record_of_kind (get_or s at 0) s at

-- ---- a record written

abbrev pub numeric_bytes : NumericValue → List ℕ
numeric_bytes n = to_le 8 n.low ++ (to_le 8 (of_z w64 n.high) ++ (n.scale ∷ []))

-- start and length, of w bytes each
abbrev pub range_body : ℕ → TextRange → List ℕ
range_body w r = to_le w r.start ++ to_le w r.length

abbrev pub body_of : DataValue → List ℕ
body_of D.Null = []
body_of (D.SmallInt x) = to_le 2 (of_z w16 x)
body_of (D.Int x) = to_le 4 (of_z w32 x)
body_of (D.BigInt x) = to_le 8 (of_z w64 x)
body_of (D.Real x) = to_le 4 x
body_of (D.DoublePrecision x) = to_le 8 x
body_of (D.Numeric n) = numeric_bytes n
body_of (D.Bool b) = b ∷ []
body_of (D.Char r) = range_body 2 r
body_of (D.Varchar r) = range_body 2 r
body_of (D.Date x) = to_le 4 (of_z w32 x)
body_of (D.Time x) = to_le 8 (of_z w64 x)
body_of (D.Bit r) = range_body 2 r
body_of (D.Timestamp x) = to_le 8 (of_z w64 x)

-- a range of kind 8, 9 or 12, for rows of a sort: "a long row reads into" 17, 18 and 19
abbrev pub range_record : Bool → ℕ → TextRange → List ℕ
range_record false kind r = kind ∷ range_body 2 r
range_record true kind r = long_kind kind ∷ range_body 4 r

abbrev pub record_of : Bool → DataValue → List ℕ
record_of k v = cond (is_range_kind (kind_of v)) (range_record k (kind_of v) (range_of v)) (kind_of v ∷ body_of v)

-- ---- values that records can hold: the machine's numbers, and ranges of four bytes each

pub record NarrowRange (w : ℕ) (r : TextRange) : Type 0 where
  pub start : r.start < 256 ^ w
  pub size : r.length < 256 ^ w

pub record SizedNumeric (n : NumericValue) : Type 0 where
  pub high : SFits w64 n.high
  pub low : Fits w64 n.low
  pub scale : Fits w8 n.scale

abbrev pub Sized : DataValue → Type 0
Sized D.Null = Unit {0}
Sized (D.SmallInt x) = SFits w16 x
Sized (D.Int x) = SFits w32 x
Sized (D.BigInt x) = SFits w64 x
Sized (D.Real x) = Fits w32 x
Sized (D.DoublePrecision x) = Fits w64 x
Sized (D.Numeric n) = SizedNumeric n
Sized (D.Bool b) = Fits w8 b
Sized (D.Char r) = NarrowRange 4 r
Sized (D.Varchar r) = NarrowRange 4 r
Sized (D.Date x) = SFits w32 x
Sized (D.Time x) = SFits w64 x
Sized (D.Bit r) = NarrowRange 4 r
Sized (D.Timestamp x) = SFits w64 x
