-- FORMAT 10.1. 02, request 2: rows that were put in a list, "each after its length in two bytes little-endian", are its
-- rows, and a list that is whole has no byte that is not of its rows.
use Rattle.std.specs.Prelude.{ℕ, ◌≤◌, ◌<◌, ◌≡◌, List, length, Ok}
use Rattle.row_list.specs.Rows.{list_limit, rows_of}
use Rattle.row_list.specs.Framed.{framed}
use Rattle.printed_list.specs.Sorted.{Every}

abbrev pub RowsFramed : Type 0
RowsFramed =
    (most : ℕ) (rs : List (List ℕ)) → length rs ≤ most → length (framed rs) ≤ list_limit
    → rows_of most (framed rs) ≡ Ok rs

abbrev pub FramedRows : Type 0
FramedRows =
    (most : ℕ) (s : List ℕ) (rs : List (List ℕ)) → rows_of most s ≡ Ok rs → Every (λ b. b < 256) s → framed rs ≡ s
