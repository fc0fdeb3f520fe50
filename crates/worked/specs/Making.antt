-- 01, Fresh: "1, 2, 14"; Build: "1, 2, 10, then 11 and 12 by rising column, 13, 14": each number, its place, and which
-- of two comes first. An answer is number, place and length, then the lent bytes and the counts.
use Rattle.std.specs.Prelude.{ℕ, zero, suc, true, false, List, [], ◌∷◌, ◌++◌, replicate}
use Rattle.worked.specs.Cases.{Case}
use Rattle.worked.specs.Calls.{◌gives◌, refused, hex, zeros, lent, S, ABCDEF, fresh, build}

-- ---- schemas, and fresh rows

-- n columns of type SmallInt
abbrev pub small_ints : ℕ → List ℕ
small_ints n = replicate n 1

-- n columns of type Char(65535)
abbrev pub wide_chars : ℕ → List ℕ
wide_chars zero = []
wide_chars (suc n) = hex "09 FF FF" ++ wide_chars n

unfoldable pub rows_of_nulls : List Case
rows_of_nulls =
    -- 1: "schema record of unknown kind, or cut off": kinds 0 and 17; a Varchar; a Numeric of precision 39
    (fresh false (hex "00") (lent 4) gives 1 ∷ 0 ∷ 0 ∷ lent 4)
    ∷ (fresh false (hex "02 11 05 00") [] gives refused 1 1)
    ∷ (fresh false (hex "02 0B 05") [] gives refused 1 1)
    ∷ (fresh false (hex "06 27") [] gives refused 1 0)
    -- 2: "precision outside 1 to 38"; "scale above precision"; 38 and 38 are good, so that 14 is left
    ∷ (fresh false (hex "06 00 00") (lent 4) gives 2 ∷ 0 ∷ 0 ∷ lent 4)
    ∷ (fresh false (hex "02 07 27 00") [] gives refused 2 1)
    ∷ (fresh false (hex "06 03 04") [] gives refused 2 0)
    ∷ (fresh false (hex "06 26 26") [] gives refused 14 0)
    -- 2: "a 257th record begins", "a 257th gives 2 whatever its kind"; "256 columns pass"
    ∷ (fresh false (small_ints 256 ++ hex "00") [] gives refused 2 256)
    ∷ (fresh false (small_ints 256) [] gives refused 14 0)
    -- 2: "padded minimum above 65,535 (place: schema length)". Before a Char stand 5 bytes; Char(65521), BigInt has
    -- 65,534 bytes packed, 65,541 padded
    ∷ (fresh false (hex "09 FB FF") [] gives refused 2 3)
    ∷ (fresh false (hex "09 F1 FF 03") [] gives refused 2 4)
    -- 02, request 5: "2 [..] use the greater limit for the long sort": 4 + 3 + 16 * 65,535 + 10 bytes
    ∷ (fresh true (wide_chars 16 ++ hex "09 0A 00") [] gives refused 2 51)
    -- "The first bad schema record decides between 1 and 2", and comes before the minimum
    ∷ (fresh false (hex "06 00 00 00") [] gives refused 2 0)
    ∷ (fresh false (hex "00 06 00 00") [] gives refused 1 0)
    ∷ (fresh false (hex "09 FF FF 09 FF FF 00") [] gives refused 1 6)
    -- nine Bools have a bitmap of two bytes
    ∷ (fresh false (hex "08 08 08 08 08 08 08 08 08") (lent 15) gives 0 ∷ 0 ∷ 15 ∷ hex "09 00 00 80 FF 01" ++ zeros 9)
    -- 14: "lent output shorter than the result", which has 13 bytes
    ∷ (fresh false S (lent 12) gives 14 ∷ 0 ∷ 0 ∷ lent 12)
    ∷ []

-- ---- built rows

-- a list for S, with room for row 2
abbrev pub given : List ℕ → List ℕ → List ℕ
given values area = build false S values area (lent 15) (7 ∷ 7 ∷ 7 ∷ [])

abbrev pub refused_s : ℕ → ℕ → List ℕ
refused_s number place = number ∷ place ∷ 0 ∷ lent 15 ++ (7 ∷ 7 ∷ 7 ∷ [])

-- Char(65528), Varchar(2): before the Varchar's text stand 65,535 bytes
abbrev pub near_limit : List ℕ
near_limit = hex "09 F8 FF 0B 02 00"

unfoldable pub rows_of_values : List Case
rows_of_values =
    -- 1 and 2 come before 10
    (build false (hex "00") (hex "0E") [] [] [] gives refused 1 0)
    ∷ (build false (hex "06 00 00") (hex "0E") [] [] [] gives refused 2 0)
    -- 10: "unknown kind, cut"; "The first bad value record decides the place"
    ∷ (given (hex "02 01 00 00 00 0E 0E") [] gives refused_s 10 5)
    ∷ (given (hex "02 01 00 00 00 09 00 00 02") [] gives refused_s 10 5)
    ∷ (given (hex "00 00 00 00 0E") [] gives refused_s 10 4)
    -- "then wrong record count (place: list length)": too few, too many
    ∷ (given (hex "02 01 00 00 00 00") [] gives refused_s 10 6)
    ∷ (given (hex "00 00 00 00") [] gives refused_s 10 4)
    -- "then text area above 65,535 (place 0)", for short rows
    ∷ (build false S (hex "00 00") (zeros 65536) [] [] gives refused 10 2)
    ∷ (build false S (hex "00 00 00") (zeros 65536) [] [] gives refused 10 0)
    ∷ (build true S (hex "00 00 00") (zeros 65536) [] [] gives refused 14 0)
    -- 10 before 11
    ∷ (given (hex "01 00 00 0E") [] gives refused_s 10 3)
    -- 11: "value kind does not match the column's type", before 12: a Bool of 2 for an Int
    ∷ (given (hex "07 02 00 00") [] gives refused_s 11 0)
    ∷ (given (hex "00 08 00 00 02 00 00") ABCDEF gives refused_s 11 1)
    ∷ (given (hex "00 00 02 01 00 00 00") [] gives refused_s 11 2)
    -- 12: "value does not suit the type": ""ABCDE" fits S, "ABCDEF" gives 12"
    ∷ (given (hex "00 09 00 00 06 00 00") ABCDEF gives refused_s 12 1)
    ∷ (given (hex "00 09 00 00 05 00 00") ABCDEF gives refused_s 14 0)
    -- "or its text range leaves the text area"
    ∷ (given (hex "00 09 05 00 02 00 00") ABCDEF gives refused_s 12 1)
    ∷ (given (hex "00 09 07 00 00 00 00") ABCDEF gives refused_s 12 1)
    ∷ (given (hex "00 09 06 00 00 00 00") ABCDEF
    gives 0 ∷ 0 ∷ 13 ∷ hex "03 00 01 80 05 0D 00 00 00 00 00 00 00 EE EE" ++ (0 ∷ 0 ∷ 0 ∷ []))
    -- "11 and 12 by rising column"
    ∷ (given (hex "01 00 00 09 09 00 01 00 00") [] gives refused_s 11 0)
    ∷ (given (hex "00 09 09 00 01 00 07 00") [] gives refused_s 12 1)
    -- 12 before 13; 13: "row would pass 65,535 bytes", before 14, for short rows
    ∷ (build false near_limit (hex "00 09 00 00 03 00") ABCDEF [] [] gives refused 12 1)
    ∷ (build false near_limit (hex "00 09 00 00 01 00") ABCDEF [] [] gives refused 13 0)
    ∷ (build true near_limit (hex "00 09 00 00 01 00") ABCDEF [] [] gives refused 14 0)
    -- 14: the row of "ABC" has 16 bytes; S has three columns
    ∷ (given (hex "02 01 00 00 00 09 00 00 03 00 00") ABCDEF gives refused_s 14 0)
    ∷ (build false S (hex "00 00 00") [] (lent 13) (7 ∷ 7 ∷ []) gives 14 ∷ 0 ∷ 0 ∷ lent 13 ++ (7 ∷ 7 ∷ []))
    ∷ []
