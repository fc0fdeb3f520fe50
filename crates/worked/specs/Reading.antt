-- 01, Read: "1, 2, 4, 3 (four bytes), 5, 6, 3 (minimum), then 7 and 8 by rising column, 14": each number, which of two
-- comes first; and reads of packed and padded rows. An answer is number, place and length, then the lent bytes and the
-- counts.
use Rattle.std.specs.Prelude.{ℕ, List, [], ◌∷◌, ◌++◌, take}
use Rattle.worked.specs.Cases.{Case}
use Rattle.worked.specs.Calls.{◌gives◌, refused, hex, zeros, lent, S, row2, varchars, varchars_row, read}

abbrev pub read_s : List ℕ → List ℕ
read_s row = read S row (0 ∷ 1 ∷ 2 ∷ []) [] []

-- Date, Varchar(5) and Varchar(5), Date, and a row of both: the date is none, the offset 63 is past the end
abbrev pub date_text : List ℕ
date_text = hex "0C 0B 05 00"

abbrev pub text_date : List ℕ
text_date = hex "0B 05 00 0C"

abbrev pub bad : List ℕ
bad = hex "02 00 01 80 00 63 00 FF FF FF 7F"

-- two Varchars: the first one's range ends at 12, behind the row's end, where the second one's starts
abbrev pub behind : List ℕ
behind = hex "02 00 02 80 00 09 00 0C 00 41"

-- SmallInt, BigInt of 7 and 2: "rounds each start up to its alignment, counted from the first fixed byte"
abbrev pub padded : List ℕ
padded = hex "02 00 00 00 00 07 00 EE EE EE EE EE EE 02 00 00 00 00 00 00 00"

unfoldable pub table : List Case
table =
    -- 1 and 2 come before 3, and before 4
    (read (hex "00") [] [] [] [] gives refused 1 0)
    ∷ (read (hex "06 00 00") [] [] [] [] gives refused 2 0)
    ∷ (read (hex "06 00 00") (zeros 65536) [] [] [] gives refused 2 0)
    -- a long row of 65,536 bytes, of a Bool that is null
    ∷ (read (hex "08") (hex "01 00 00 C0 01" ++ zeros 65531) [] (lent 1) (7 ∷ []) gives 0 ∷ 0 ∷ 1 ∷ 0 ∷ 0 ∷ [])
    -- 4 before 5; 3 (four bytes) before 5; 5 before 6; 6 before 3 (minimum)
    ∷ (read_s (zeros 65536) gives refused 4 0)
    ∷ (read_s [] gives refused 3 0)
    ∷ (read_s (hex "04 00 02") gives refused 3 0)
    ∷ (read_s (hex "04 00 02 80") gives refused 5 0)
    ∷ (read_s (hex "03 00 02 80") gives refused 6 0)
    -- 3 (minimum), which is 13, before 7 and with no column wanted
    ∷ (read_s (hex "03 00 01 80 00 63 00 00 00 00 00 00") gives refused 3 0)
    ∷ (read S (hex "03 00 01 80") [] [] [] gives refused 3 0)
    -- 7: "start > end or end > row length"
    ∷ (read_s (hex "03 00 01 80 04 10 00 01 00 00 00 00 00 41 42") gives refused 7 1)
    ∷ (read (hex "0B 05 00 0B 05 00") behind (0 ∷ []) [] [] gives refused 7 0)
    ∷ (read (hex "0B 05 00 0B 05 00") behind (1 ∷ []) [] [] gives refused 7 1)
    -- 8: a byte that is no text, a text above n bytes
    ∷ (read_s (hex "03 00 01 80 04 0D 00 01 00 00 00 00 00 41 FF") gives refused 8 1)
    ∷ (read_s (hex "03 00 01 80 04 0D 00 01 00 00 00 00 00 41 42 43 44 45 46") gives refused 8 1)
    -- "by rising column", of those that are wanted
    ∷ (read date_text bad (1 ∷ 0 ∷ []) [] [] gives refused 8 0)
    ∷ (read date_text bad (1 ∷ []) [] [] gives refused 7 1)
    ∷ (read text_date bad (1 ∷ 0 ∷ []) [] [] gives refused 7 0)
    ∷ (read text_date bad (1 ∷ []) [] [] gives refused 8 1)
    ∷ (read text_date bad [] (lent 3) (7 ∷ 7 ∷ []) gives 0 ∷ 0 ∷ 2 ∷ hex "00 00 EE" ++ (0 ∷ 0 ∷ []))
    -- 14 is last: for want of a byte, of a number
    ∷ (read S row2 (0 ∷ 1 ∷ 2 ∷ []) (lent 10) (7 ∷ 7 ∷ 7 ∷ []) gives 14 ∷ 0 ∷ 0 ∷ lent 10 ++ (7 ∷ 7 ∷ 7 ∷ []))
    ∷ (read S row2 (0 ∷ 1 ∷ 2 ∷ []) (lent 11) (7 ∷ 7 ∷ []) gives 14 ∷ 0 ∷ 0 ∷ lent 11 ++ (7 ∷ 7 ∷ []))
    -- row 2; "unknown column numbers ignored; null for an unwanted column"
    ∷ (read S row2 (0 ∷ 1 ∷ 2 ∷ []) (lent 12) (7 ∷ 7 ∷ 7 ∷ 7 ∷ [])
    gives 0 ∷ 0 ∷ 11 ∷ hex "02 01 00 00 00 09 0D 00 02 00 00 EE" ++ (0 ∷ 2 ∷ 0 ∷ 7 ∷ []))
    ∷ (read S row2 (3 ∷ 0 ∷ 256 ∷ 0 ∷ []) (lent 7) (7 ∷ 7 ∷ 7 ∷ [])
    gives 0 ∷ 0 ∷ 7 ∷ hex "02 01 00 00 00 00 00" ++ (0 ∷ 0 ∷ 0 ∷ []))
    -- "A range ends at the next non-zero offset of a higher rank"; an offset inside the header: "the Rust reads from
    -- there"
    ∷ (read varchars varchars_row (0 ∷ 1 ∷ 2 ∷ []) (lent 11) (7 ∷ 7 ∷ 7 ∷ [])
    gives 0 ∷ 0 ∷ 11 ∷ hex "09 0B 00 01 00 00 09 0C 00 01 00" ++ (1 ∷ 0 ∷ 1 ∷ []))
    ∷ (read (hex "0B 05 00") (hex "01 00 01 80 00 04 00") (0 ∷ []) (lent 5) (7 ∷ [])
    gives 0 ∷ 0 ∷ 5 ∷ hex "09 04 00 03 00" ++ (3 ∷ []))
    -- a padded row, and one byte less of it
    ∷ (read (hex "01 03") padded (0 ∷ 1 ∷ []) (lent 12) (7 ∷ 7 ∷ [])
    gives 0 ∷ 0 ∷ 12 ∷ hex "01 07 00 03 02 00 00 00 00 00 00 00" ++ (0 ∷ 0 ∷ []))
    ∷ (read (hex "01 03") (take 20 padded) [] [] [] gives refused 3 0)
    ∷ []
