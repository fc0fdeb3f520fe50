-- FORMAT 3.2, 3.9, 3.10. 01, "Layout": the header of a row; 02, request 5: the mark in it that tells the row's sort.
use Rattle.std.specs.Prelude.{ℕ, ◌%◌, Bool, false, cond, List, leb, ltb, length, take, drop}
use Rattle.laws.specs.Bytes.{from_le}
use Rattle.row_format.specs.Row.{packed_flag, long_flag}

-- "Column count (2 bytes); Varchar count with 0x8000 for packed (2)"
abbrev pub column_count : List ℕ → ℕ
column_count r = from_le (take 2 r)

abbrev pub varlen_field : List ℕ → ℕ
varlen_field r = from_le (take 2 (drop 2 r))

abbrev pub is_packed : List ℕ → Bool
is_packed r = leb packed_flag (varlen_field r)

-- 02, request 5: "A long row sets 0x4000 in the second header word"; "On a read or edit the row's own mark tells the
-- sort, and a row under four bytes or past its buffer counts as short": true for long
unfoldable pub is_long : List ℕ → Bool
is_long r = cond (ltb (length r) 4) false (leb long_flag (varlen_field r % packed_flag))

-- of the row in the first n bytes of a buffer
unfoldable pub sort_in : List ℕ → ℕ → Bool
sort_in buf n = cond (ltb (length buf) n) false (is_long (take n buf))
