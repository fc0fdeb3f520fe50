-- FORMAT 2.1, 2.3. 01, "Schema and value bytes": the columns that a schema's bytes say, or the refusal.
use Rattle.std.specs.Prelude.{ℕ, zero, suc, ◌+◌, Bool, true, false, cond, ◌&&◌, List, [], map, eqb, leb, ltb, length, get_or, take, drop, Err, Ok}
use Rattle.error.specs.declared.Refusal.TheVariants.{BadRecord, BadSchema}
use Rattle.error.specs.Result.{Result, before}
use Rattle.laws.specs.Bytes.{from_le}
use Rattle.row_format.specs.Places.{offset_width, row_limit, minimum}
use Rattle.datatype.specs.declared.DataType.{DataType}
use Rattle.datatype.specs.declared.DataType.TheVariants.{SmallInt, Int, BigInt, Real, DoublePrecision, Numeric, Decimal, Bool as Boolean, Char, Character, Varchar, Date, Time, Bit, Timestamp}
use Rattle.datatype.specs.Types.{shape_of}

-- ---- one record

-- what follows the byte of kind: nothing; "n, two bytes"; "precision, scale, a byte each"
pub data Kind : Type 0 where
  unknown : Kind
  plain : DataType → Kind
  sized : (ℕ → DataType) → Kind
  digits : (ℕ → ℕ → DataType) → Kind

-- "Schema kinds: 1 SmallInt, 2 Int, 3 BigInt, 4 Real, 5 DoublePrecision, 6 Numeric and 7 Decimal (precision, scale, a
-- byte each), 8 Bool, 9 Char, 10 Character, 11 Varchar (n, two bytes), 12 Date, 13 Time, 14 Bit (n, two bytes), 15
-- Timestamp"; 02, request 3: "Schema kind 16, body n in two bytes, is a Varchar of at most n code points"
abbrev pub column_kind : ℕ → Kind
column_kind k =
    cond (eqb k 1) (plain SmallInt)
    (cond (eqb k 2) (plain Int)
    (cond (eqb k 3) (plain BigInt)
    (cond (eqb k 4) (plain Real)
    (cond (eqb k 5) (plain DoublePrecision)
    (cond (eqb k 6) (digits Numeric)
    (cond (eqb k 7) (digits Decimal)
    (cond (eqb k 8) (plain Boolean)
    (cond (eqb k 9) (sized Char)
    (cond (eqb k 10) (sized Character)
    (cond (eqb k 11) (sized (Varchar false))
    (cond (eqb k 12) (plain Date)
    (cond (eqb k 13) (plain Time)
    (cond (eqb k 14) (sized Bit)
    (cond (eqb k 15) (plain Timestamp)
    (cond (eqb k 16) (sized (Varchar true))
    unknown)))))))))))))))

-- 2: "precision outside 1 to 38; scale above precision"
abbrev pub good_digits : ℕ → ℕ → Bool
good_digits p s = leb 1 p && leb p 38 && leb s p

-- 1: "schema record of unknown kind, or cut off"
abbrev pub unless_cut : List ℕ → ℕ → Result (DataType × ℕ) → Result (DataType × ℕ)
unless_cut s at r = cond (ltb (length s) (at + 3)) (Err (BadRecord at)) r

-- a record's type and the place after it
abbrev pub column_record_of : Kind → List ℕ → ℕ → Result (DataType × ℕ)
column_record_of unknown s at = Err (BadRecord at)
column_record_of (plain t) s at = Ok (t, (at + 1))
column_record_of (sized t) s at = unless_cut s at (Ok ((t (from_le (take 2 (drop (at + 1) s)))), (at + 3)))
column_record_of (digits t) s at =
    unless_cut s at
    (cond (good_digits (get_or s (at + 1) 0) (get_or s (at + 2) 0))
    (Ok ((t (get_or s (at + 1) 0) (get_or s (at + 2) 0)), (at + 3))) (Err (BadSchema at)))

abbrev pub column_record_at : List ℕ → ℕ → Result (DataType × ℕ)
column_record_at s at = column_record_of (column_kind (get_or s at 0)) s at

-- ---- the whole schema

abbrev pub Parsed : Type 0
Parsed = Result (List DataType)

abbrev pub on_column_record : Result (DataType × ℕ) → (ℕ → Parsed) → Parsed
on_column_record (Ok (t, next)) rest = before t (rest next)
on_column_record (Err r) rest = Err r

-- at most n records from a place on. "The first bad schema record decides"; 2: "a 257th record begins", "whatever its
-- kind"
abbrev pub column_records : ℕ → List ℕ → ℕ → Parsed
column_records zero s at = cond (ltb at (length s)) (Err (BadSchema at)) (Ok [])
column_records (suc n) s at =
    cond (ltb at (length s)) (on_column_record (column_record_at s at) (column_records n s)) (Ok [])

-- 2: "after the last record, padded minimum above 65,535 (place: schema length)", for short rows, and by the limit of
-- long rows for those
abbrev pub limited : Bool → ℕ → Parsed → Parsed
limited k len (Ok ts) =
    cond (ltb (row_limit k) (minimum (offset_width k) false (map shape_of ts))) (Err (BadSchema len)) (Ok ts)
limited k len (Err r) = Err r

unfoldable pub schema_of : Bool → List ℕ → Parsed
schema_of k s = limited k (length s) (column_records 256 s 0)
