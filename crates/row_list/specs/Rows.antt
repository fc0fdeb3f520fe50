-- FORMAT 10.1. 02, request 2: "a list of rows [..], each after its length in two bytes little-endian, at most 512 rows
-- and 32,768 bytes, lengths included".
use Rattle.std.specs.Prelude.{ℕ, zero, suc, ◌+◌, cond, List, [], eqb, ltb, length, take, drop, Err, Ok}
use Rattle.error.specs.declared.Refusal.TheVariants.{BadList}
use Rattle.error.specs.Result.{Result, before}
use Rattle.laws.specs.Bytes.{from_le}

-- the length that stands before the first row, and that row
abbrev pub first_size : List ℕ → ℕ
first_size s = from_le (take 2 s)

abbrev pub first_row : List ℕ → List ℕ
first_row s = take (first_size s) (drop 2 s)

-- the bytes from the second row on
abbrev pub later_rows : List ℕ → List ℕ
later_rows s = drop (2 + first_size s) s

-- 16: "a list that is cut or over its limits": the rows, at most n
abbrev pub rows_from : ℕ → List ℕ → Result (List (List ℕ))
rows_from zero s = cond (eqb (length s) 0) (Ok []) (Err BadList)
rows_from (suc n) s =
    cond (eqb (length s) 0) (Ok [])
    (cond (ltb (length s) (2 + first_size s)) (Err BadList) (before (first_row s) (rows_from n (later_rows s))))

abbrev pub list_limit : ℕ
list_limit = 32768

abbrev pub rows_of : ℕ → List ℕ → Result (List (List ℕ))
rows_of most s = cond (ltb list_limit (length s)) (Err BadList) (rows_from most s)
