-- 01, "Same content (added) compares two rows of one schema by what a read of all columns gives, null or a value: a
-- Numeric by number and scale, a Bit by its n bits, text by bytes. Real and DoublePrecision compare by value, so the
-- two zeros are equal, and every NaN equals every NaN. It refuses as a read of all columns of the first row, then of
-- the second": each number, which of two comes first, and pairs of rows.
use Rattle.std.specs.Prelude.{ℕ, List, [], ◌∷◌, ◌++◌}
use Rattle.worked.specs.Cases.{Case}
use Rattle.worked.specs.Calls.{◌gives◌, refused, hex, zeros, S, row2, same}

abbrev pub yes : List ℕ
yes = 0 ∷ 0 ∷ 1 ∷ []

abbrev pub no : List ℕ
no = 0 ∷ 0 ∷ 0 ∷ []

-- rows of S that are refused with 5, 6, 3 by the minimum, 7 and 8
abbrev pub five : List ℕ
five = hex "04 00 02 80"

abbrev pub six : List ℕ
six = hex "03 00 02 80"

abbrev pub three : List ℕ
three = hex "03 00 01 80 00 63 00 00 00 00 00 00"

abbrev pub seven : List ℕ
seven = hex "03 00 01 80 04 10 00 01 00 00 00 00 00 41 42"

abbrev pub eight : List ℕ
eight = hex "03 00 01 80 04 0D 00 01 00 00 00 00 00 41 FF"

-- two rows of one column of a kind, with these slots
abbrev pub slots : List ℕ → List ℕ → List ℕ → List ℕ
slots kind x y = same kind (hex "01 00 00 80 00" ++ x) (hex "01 00 00 80 00" ++ y)

unfoldable pub refusals : List Case
refusals =
    (same (hex "00") [] [] gives refused 1 0)
    ∷ (same (hex "06 00 00") [] [] gives refused 2 0)
    -- the first row's comes first, whatever is wrong with the second
    ∷ (same S (zeros 65536) [] gives refused 4 0)
    ∷ (same S [] five gives refused 3 0)
    ∷ (same S five [] gives refused 5 0)
    ∷ (same S six [] gives refused 6 0)
    ∷ (same S three six gives refused 3 0)
    ∷ (same S seven [] gives refused 7 1)
    ∷ (same S eight [] gives refused 8 1)
    -- then the second row's
    ∷ (same S row2 (zeros 65536) gives refused 4 0)
    ∷ (same S row2 [] gives refused 3 0)
    ∷ (same S row2 five gives refused 5 0)
    ∷ (same S row2 six gives refused 6 0)
    ∷ (same S row2 three gives refused 3 0)
    ∷ (same S row2 seven gives refused 7 1)
    ∷ (same S row2 eight gives refused 8 1)
    -- 02, request 5: Char(65535) is too much for a short row, here the first; the second is a long one
    ∷ (same (hex "09 FF FF") [] (hex "01 00 00 C0") gives refused 2 3)
    ∷ (same (hex "09 FF FF") (hex "01 00 00 C0") [] gives refused 3 0)
    ∷ []

unfoldable pub table : List Case
table =
    -- row 2 and itself; its long twin, either way round
    (same S row2 row2 gives yes)
    ∷ (same S row2 (hex "03 00 01 C0 04 0F 00 00 00 01 00 00 00 00 00 41 42") gives yes)
    ∷ (same S (hex "03 00 01 C0 04 0F 00 00 00 01 00 00 00 00 00 41 42") row2 gives yes)
    -- another number, another text, null for a value; not looked at: a null's slot, bits past the last column
    ∷ (same S row2 (hex "03 00 01 80 04 0D 00 02 00 00 00 00 00 41 42") gives no)
    ∷ (same S row2 (hex "03 00 01 80 04 0D 00 01 00 00 00 00 00 41 43") gives no)
    ∷ (same S row2 (hex "03 00 01 80 04 0D 00 01 00 00 00 00 00 41") gives no)
    ∷ (same S row2 (hex "03 00 01 80 06 00 00 01 00 00 00 00 00") gives no)
    ∷ (same S row2 (hex "03 00 01 80 00 0D 00 01 00 00 00 00 00 41 42") gives no)
    ∷ (same S row2 (hex "03 00 01 80 F4 0D 00 01 00 00 00 09 09 41 42") gives yes)
    -- a null is a null, by the bit or by an offset of 0; the empty text is none
    ∷ (same (hex "0B 05 00") (hex "01 00 01 80 01 07 00 41") (hex "01 00 01 80 00 00 00") gives yes)
    ∷ (same (hex "0B 05 00") (hex "01 00 01 80 00 07 00") (hex "01 00 01 80 00 00 00") gives no)
    -- packed and padded: SmallInt, BigInt, whose padded start is 8
    ∷ (same (hex "01 03") (hex "02 00 00 80 00 07 00 01 02 03 04 05 06 07 08")
    (hex "02 00 00 00 00 07 00 EE EE EE EE EE EE 01 02 03 04 05 06 07 08") gives yes)
    -- Numeric(2,1) of zero with either sign and a digit in front, of 0.1 and −0.1; Numeric(32,0) by number and scale
    ∷ (slots (hex "06 02 01") (hex "00 0C") (hex "50 0D") gives yes)
    ∷ (slots (hex "06 02 01") (hex "00 1C") (hex "00 1D") gives no)
    ∷ (slots (hex "07 20 00") (zeros 16 ++ hex "1C") (hex "01" ++ (zeros 15 ++ hex "00")) gives yes)
    ∷ (slots (hex "07 20 00") (zeros 16 ++ hex "1C") (hex "01" ++ (zeros 15 ++ hex "01")) gives no)
    -- Bit(3): 110 and spare bits; Bool: any byte but 0; Time: the day that 01 takes a count modulo
    ∷ (slots (hex "0E 03 00") (hex "C0") (hex "DF") gives yes)
    ∷ (slots (hex "0E 03 00") (hex "C0") (hex "E0") gives no)
    ∷ (slots (hex "08") (hex "01") (hex "02") gives yes)
    ∷ (slots (hex "08") (hex "01") (hex "00") gives no)
    ∷ (slots (hex "0D") (zeros 8) (hex "00 00 00 00 40 42 0F 00") gives yes)
    -- Real: 0 and −0, two NaNs, 1 and −1, 1 and a NaN
    ∷ (slots (hex "04") (hex "00 00 00 00") (hex "00 00 00 80") gives yes)
    ∷ (slots (hex "04") (hex "00 00 C0 7F") (hex "01 00 80 FF") gives yes)
    ∷ (slots (hex "04") (hex "00 00 80 3F") (hex "00 00 80 BF") gives no)
    ∷ (slots (hex "04") (hex "00 00 80 3F") (hex "00 00 C0 7F") gives no)
    -- DoublePrecision
    ∷ (slots (hex "05") (zeros 8) (hex "00 00 00 00 00 00 00 80") gives yes)
    ∷ (slots (hex "05") (hex "00 00 00 00 00 00 F8 7F") (hex "01 00 00 00 00 00 F0 FF") gives yes)
    ∷ (slots (hex "05") (hex "00 00 00 00 00 00 F0 3F") (hex "00 00 00 00 00 00 F0 BF") gives no)
    ∷ []
