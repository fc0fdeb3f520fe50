-- 02, request 2: "16 for a list that is cut or over its limits, tested first, place 0; then the reading refusals row by
-- row; 17, after those of its row, for a text with a double quote or a byte below 32, place the first such column"; 14
-- last. Each number, which of two comes first; and lines in their order. No row of a list is above 65,535 bytes, so
-- that 4 is never given. An answer is number, place and length, then the lent bytes.
use Rattle.std.specs.Prelude.{ℕ, List, [], ◌∷◌, ◌++◌, length}
use Rattle.laws.specs.Bytes.{to_le}
use Rattle.worked.specs.Cases.{Case}
use Rattle.worked.specs.Calls.{◌gives◌, refused, hex, ascii, zeros, lent, print}

-- a row after its length: null bits, the offsets of platform and unit, arrival, departure, the texts
abbrev pub row : ℕ → ℕ → ℕ → List ℕ → List ℕ → List ℕ → List ℕ
row nulls platform unit arrival departure texts =
    let r = hex "04 00 02 80" ++ ((nulls ∷ platform ∷ 0 ∷ unit ∷ 0 ∷ []) ++ (arrival ++ (departure ++ texts))) in
    to_le 2 (length r) ++ r

-- with a platform alone; with platform and arrival; with both texts, the platform of one byte
abbrev pub at : List ℕ → List ℕ
at platform = row 0x0E 0x19 0 (zeros 8) (zeros 8) platform

abbrev pub arriving : List ℕ → List ℕ → List ℕ
arriving platform arrival = row 0x0A 0x19 0 arrival (zeros 8) platform

abbrev pub both : ℕ → List ℕ → List ℕ
both platform unit = row 0x0C 0x19 0x1A (zeros 8) (zeros 8) (platform ∷ unit)

abbrev pub refuses : List ℕ → List ℕ
refuses list = print list []

-- no moment
abbrev pub never : List ℕ
never = hex "FF FF FF FF FF FF FF 7F"

unfoldable pub table : List Case
table =
    -- 16: "cut", inside a length and inside a row; "tested first", before a row of no bytes
    (refuses (hex "19") gives refused 16 0)
    ∷ (refuses (hex "19 00 04 00 02 80") gives refused 16 0)
    ∷ (refuses (hex "00 00 19") gives refused 16 0)
    -- "at most 512 rows and 32,768 bytes, lengths included": 513 rows of no bytes, one row of 32,767 and one of 32,766
    ∷ (refuses (zeros 1026) gives refused 16 0)
    ∷ (refuses (zeros 1024) gives refused 3 0)
    ∷ (refuses (hex "FF 7F" ++ zeros 32767) gives refused 16 0)
    ∷ (refuses (hex "FE 7F" ++ zeros 32766) gives refused 5 0)
    -- 3 (four bytes) before 5, 5 before 6, 6 before 3 (minimum)
    ∷ (refuses (hex "03 00 05 00 03") gives refused 3 0)
    ∷ (refuses (hex "04 00 05 00 03 80") gives refused 5 0)
    ∷ (refuses (hex "04 00 04 00 03 80") gives refused 6 0)
    ∷ (refuses (hex "04 00 04 00 02 80") gives refused 3 0)
    -- 7 and 8 by rising column: the platform's offset, the unit's; a platform that is no text, one of 17 bytes; no
    -- arrival, no departure
    ∷ (refuses (row 0x00 0x63 0 never never []) gives refused 7 0)
    ∷ (refuses (row 0x01 0 0x63 never never []) gives refused 7 1)
    ∷ (refuses (row 0x00 0x19 0 never never (hex "FF")) gives refused 8 0)
    ∷ (refuses (at (ascii "ABCDEFGHIJKLMNOPQ")) gives refused 8 0)
    ∷ (refuses (row 0x03 0 0 never never []) gives refused 8 2)
    ∷ (refuses (row 0x07 0 0 never never []) gives refused 8 3)
    -- 17: "a byte below 32", "a double quote", "place the first such column"
    ∷ (refuses (at (hex "1F")) gives refused 17 0)
    ∷ (refuses (at (hex "22")) gives refused 17 0)
    ∷ (refuses (both 0x33 (hex "41 1F")) gives refused 17 1)
    ∷ (refuses (both 0x33 (hex "00")) gives refused 17 1)
    ∷ (refuses (both 0x1F (hex "1F")) gives refused 17 0)
    -- "after those of its row", "row by row"
    ∷ (refuses (row 0x06 0x19 0 never never (hex "1F")) gives refused 8 3)
    ∷ (refuses (at (hex "1F") ++ hex "00 00") gives refused 17 0)
    ∷ (refuses (hex "00 00" ++ at (hex "1F")) gives refused 3 0)
    -- 14 is last: the line has 10 bytes; 32 and 127 are printed
    ∷ (print (at (ascii "3")) (lent 9) gives 14 ∷ 0 ∷ 0 ∷ lent 9)
    ∷ (print (at (ascii "3")) (lent 11) gives 0 ∷ 0 ∷ 10 ∷ ascii "\"3\"|-|-|-\n" ++ lent 1)
    ∷ (print (both 0x20 (hex "7F")) (lent 12) gives 0 ∷ 0 ∷ 12 ∷ hex "22 20 22 7C 22 7F 22 7C 2D 7C 2D 0A")
    -- "ordered by platform bytes, then arrival, then input order, null first": a null platform, a null arrival
    ∷ (print (arriving (ascii "3") (zeros 8) ++ (at (ascii "3") ++ row 0x0F 0 0 (zeros 8) (zeros 8) [])) (lent 46)
    gives 0 ∷ 0 ∷ 46 ∷ ascii "-|-|-|-\n\"3\"|-|-|-\n\"3\"|-|1970-01-01 00:00:00|-\n")
    -- "10" stands before "2", and behind "1"
    ∷ (print (at (ascii "2") ++ (at (ascii "10") ++ at (ascii "1"))) (lent 31)
    gives 0 ∷ 0 ∷ 31 ∷ ascii "\"1\"|-|-|-\n\"10\"|-|-|-\n\"2\"|-|-|-\n")
    -- arrivals by the microsecond, here of one second; what is equal in input order, whatever the units
    ∷ (print (row 0x08 0x19 0x1A (hex "01" ++ zeros 7) (zeros 8) (ascii "3B")
    ++ row 0x08 0x19 0x1A (zeros 8) (zeros 8) (ascii "3A")) (lent 60)
    gives 0 ∷ 0 ∷ 60 ∷ ascii "\"3\"|\"A\"|1970-01-01 00:00:00|-\n" ++ ascii "\"3\"|\"B\"|1970-01-01 00:00:00|-\n")
    ∷ (print (both 0x33 (ascii "B") ++ both 0x33 (ascii "A")) (lent 24)
    gives 0 ∷ 0 ∷ 24 ∷ ascii "\"3\"|\"B\"|-|-\n\"3\"|\"A\"|-|-\n")
    ∷ []
