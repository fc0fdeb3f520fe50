-- 02, request 5: "Value kinds 17, 18 and 19 are Char, Varchar and Bit with start and length of four bytes each, and a
-- long row reads into them; they match as 8, 9 and 12 do, for either sort."
use Rattle.std.specs.Prelude.{ℕ, Bool, true, false, List, [], ◌∷◌, ◌++◌}
use Rattle.worked.specs.Cases.{Case}
use Rattle.worked.specs.Calls.{◌gives◌, hex, lent, build, read, set}

-- Char(2), Varchar(2), Bit(4): "A", "BC" and 1010 in kinds 8, 9 and 12, and in 17, 18 and 19
abbrev pub schema : List ℕ
schema = hex "09 02 00 0B 02 00 0E 04 00"

abbrev pub plain_kinds : List ℕ
plain_kinds = hex "08 00 00 01 00 09 01 00 02 00 0C 03 00 01 00"

abbrev pub long_kinds : List ℕ
long_kinds = hex "11 00 00 00 00 01 00 00 00 12 01 00 00 00 02 00 00 00 13 03 00 00 00 01 00 00 00"

abbrev pub area : List ℕ
area = hex "41 42 43 AF"

-- the rows, the short one and the long one
abbrev pub short_row : List ℕ
short_row = hex "03 00 01 80 00 0A 00 41 20 A0 42 43"

abbrev pub long_row : List ℕ
long_row = hex "03 00 01 C0 00 0C 00 00 00 41 20 A0 42 43"

-- a build with room for either, a read of all columns, and a set of a column of the short row
abbrev pub built : Bool → List ℕ → List ℕ
built sort values = build sort schema values area (lent 14) (7 ∷ 7 ∷ 7 ∷ [])

abbrev pub read_all : List ℕ → List ℕ
read_all row = read schema row (0 ∷ 1 ∷ 2 ∷ []) (lent 27) (7 ∷ 7 ∷ 7 ∷ [])

abbrev pub set_to : ℕ → List ℕ → List ℕ
set_to column value = set schema short_row 12 column value area

-- the code points of "A " and of "BC", and 0
abbrev pub counts : List ℕ
counts = 2 ∷ 2 ∷ 0 ∷ []

unfoldable pub table : List Case
table =
    -- either kinds, for rows of either sort
    (built false plain_kinds gives 0 ∷ 0 ∷ 12 ∷ short_row ++ (lent 2 ++ counts))
    ∷ (built false long_kinds gives 0 ∷ 0 ∷ 12 ∷ short_row ++ (lent 2 ++ counts))
    ∷ (built true plain_kinds gives 0 ∷ 0 ∷ 14 ∷ long_row ++ counts)
    ∷ (built true long_kinds gives 0 ∷ 0 ∷ 14 ∷ long_row ++ counts)
    -- "a long row reads into them", a short one into 8, 9 and 12
    ∷ (read_all short_row
    gives 0 ∷ 0 ∷ 15 ∷ hex "08 07 00 02 00 09 0A 00 02 00 0C 09 00 01 00" ++ (lent 12 ++ counts))
    ∷ (read_all long_row
    gives 0 ∷ 0 ∷ 27
    ∷ hex "11 09 00 00 00 02 00 00 00 12 0C 00 00 00 02 00 00 00 13 0B 00 00 00 01 00 00 00" ++ counts)
    -- a set of the Char by 17, of the Bit by 19, of the Varchar by 18: "B", 0101, "C"
    ∷ (set_to 0 (hex "11 01 00 00 00 01 00 00 00")
    gives 0 ∷ 0 ∷ 12 ∷ hex "03 00 01 80 00 0A 00 42 20 A0 42 43")
    ∷ (set_to 2 (hex "13 01 00 00 00 01 00 00 00")
    gives 0 ∷ 0 ∷ 12 ∷ hex "03 00 01 80 00 0A 00 41 20 40 42 43")
    ∷ (set_to 1 (hex "12 02 00 00 00 01 00 00 00")
    gives 0 ∷ 0 ∷ 11 ∷ hex "03 00 01 80 00 0A 00 41 20 A0 43 43")
    -- 11: 19 and 18 for the Char, 17 for the Varchar, 17 for the Bit
    ∷ (set_to 0 (hex "13 00 00 00 00 01 00 00 00") gives 11 ∷ 0 ∷ 12 ∷ short_row)
    ∷ (set_to 0 (hex "12 00 00 00 00 01 00 00 00") gives 11 ∷ 0 ∷ 12 ∷ short_row)
    ∷ (set_to 1 (hex "11 00 00 00 00 01 00 00 00") gives 11 ∷ 1 ∷ 12 ∷ short_row)
    ∷ (set_to 2 (hex "11 00 00 00 00 01 00 00 00") gives 11 ∷ 2 ∷ 12 ∷ short_row)
    -- 12: a range of four bytes each that leaves the area, though its lowest bytes do not
    ∷ (set_to 0 (hex "11 00 00 01 00 01 00 00 00") gives 12 ∷ 0 ∷ 12 ∷ short_row)
    ∷ (set_to 0 (hex "11 00 00 00 00 01 00 01 00") gives 12 ∷ 0 ∷ 12 ∷ short_row)
    -- 10: a record that is cut, of eight bytes and not of nine
    ∷ (set_to 0 (hex "11 00 00 00 00 01 00 00") gives 10 ∷ 0 ∷ 12 ∷ short_row)
    ∷ []
