-- FORMAT 4.1, 4.4, 4.6. 01, "Schema and value bytes": "Value kinds", and `data_value_matches_type`.
use Rattle.std.specs.Prelude.{ℕ, Bool, true, cond, ◌&&◌, ◌||◌, eqb, leb}
use Rattle.datatype.specs.declared.DataType.{DataType}
use Rattle.datatype.specs.declared.DataType.TheVariants as T
use Rattle.value.specs.declared.DataValue.{DataValue}
use Rattle.value.specs.declared.DataValue.TheVariants as D

-- "Value kinds and body lengths: 0 null 0; 1 SmallInt 2; 2 Int 4; 3 BigInt 8; 4 Real 4; 5 DoublePrecision 8; 6 Numeric
-- 17 [..]; 7 Bool 1 [..]; 8 Char, 9 Varchar and 12 Bit 4 [..]; 10 Date 4; 11 Time 8; 13 Timestamp 8": the kinds here,
-- the lengths in value_list/specs/Records
abbrev pub kind_of : DataValue → ℕ
kind_of D.Null = 0
kind_of (D.SmallInt x) = 1
kind_of (D.Int x) = 2
kind_of (D.BigInt x) = 3
kind_of (D.Real x) = 4
kind_of (D.DoublePrecision x) = 5
kind_of (D.Numeric n) = 6
kind_of (D.Bool b) = 7
kind_of (D.Char r) = 8
kind_of (D.Varchar r) = 9
kind_of (D.Date x) = 10
kind_of (D.Time x) = 11
kind_of (D.Bit r) = 12
kind_of (D.Timestamp x) = 13

-- the kind of a type's values
abbrev pub value_kind : DataType → ℕ
value_kind T.SmallInt = 1
value_kind T.Int = 2
value_kind T.BigInt = 3
value_kind T.Real = 4
value_kind T.DoublePrecision = 5
value_kind (T.Numeric p s) = 6
value_kind (T.Decimal p s) = 6
value_kind T.Bool = 7
value_kind (T.Char n) = 8
value_kind (T.Character n) = 8
value_kind (T.Varchar p n) = 9
value_kind T.Date = 10
value_kind T.Time = 11
value_kind (T.Bit n) = 12
value_kind T.Timestamp = 13

-- 11: "value kind does not match the column's type"; null, which every row may hold, matches none
abbrev pub matches : DataType → DataValue → Bool
matches t v = eqb (kind_of v) (value_kind t)

-- "Char, Character or Varchar": the kinds of text, and the types and the values that have one; a Bit is no text
abbrev pub is_text_kind : ℕ → Bool
is_text_kind k = cond (eqb k 8) true (eqb k 9)

abbrev pub holds_text : DataType → Bool
holds_text t = is_text_kind (value_kind t)

abbrev pub is_text_value : DataValue → Bool
is_text_value v = is_text_kind (kind_of v)

-- the kinds whose body is a range. 02, request 5: "Value kinds 17, 18 and 19 are Char, Varchar and Bit with start and
-- length of four bytes each", "they match as 8, 9 and 12 do": which of them stands for which, either way round, and
-- which have four bytes; 14, 15, 16 and those past 19 are no kinds
abbrev pub is_range_kind : ℕ → Bool
is_range_kind k = cond (is_text_kind k) true (eqb k 12)

abbrev pub long_kind : ℕ → ℕ
long_kind k = cond (eqb k 8) 17 (cond (eqb k 9) 18 19)

abbrev pub plain_kind : ℕ → ℕ
plain_kind k = cond (eqb k 17) 8 (cond (eqb k 18) 9 (cond (eqb k 19) 12 k))

abbrev pub is_long_kind : ℕ → Bool
is_long_kind k = leb 17 k

abbrev pub is_value_kind : ℕ → Bool
is_value_kind k = leb k 13 || (is_long_kind k && leb k 19)
