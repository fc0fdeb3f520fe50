-- FORMAT 7.5. A column's bit in lent bytes, and in a row.
use Rattle.error.specs.Result.{Result}
use Rattle.std.specs.Prelude.{ℕ, cond, List, eqb, leb, ltb, length, take, drop, Bool, Err, Ok}
use Rattle.error.specs.declared.Refusal.TheVariants.{RowTooShort, RowTooLong, NoSuchColumn}
use Rattle.laws.specs.Bytes.{from_le}
use Rattle.laws.specs.Bits.{bit_at}
use Rattle.row_format.specs.Places.{bitmap_start, table_start, row_limit}
use Rattle.row_format.specs.Header.{is_long}

-- "Null flag (`is_column_null_in_row`, no schema): 4, 3, 9 against the header's count, 3 for a cut bitmap"
abbrev pub column_flag : ℕ → List ℕ → ℕ → Result Bool
column_flag n r i =
    cond (leb n i) (Err NoSuchColumn)
    (cond (ltb (length r) (table_start n)) (Err RowTooShort) (Ok (eqb (bit_at i (drop bitmap_start r)) 1)))

-- 02, request 5: "On a read or edit the row's own mark tells the sort", and the sort its limit
abbrev pub null_flag : List ℕ → ℕ → Result Bool
null_flag r i =
    cond (ltb (row_limit (is_long r)) (length r)) (Err RowTooLong)
    (cond (ltb (length r) 4) (Err RowTooShort) (column_flag (from_le (take 2 r)) r i))
