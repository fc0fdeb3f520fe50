-- 01, "A further call (added) answers with a column's text [..]. It refuses as a read of that column; 9 and 11 (not
-- Char, Character or Varchar) come after 2. A null or a refusal gives the empty part": each number, which of two comes
-- first, and texts. An answer is number, place, start and length, then the bytes of the part.
use Rattle.std.specs.Prelude.{ℕ, List, [], ◌∷◌, ◌++◌}
use Rattle.worked.specs.Cases.{Case}
use Rattle.worked.specs.Calls.{◌gives◌, hex, zeros, S, row2, text_of}

abbrev pub refused : ℕ → ℕ → List ℕ
refused number place = number ∷ place ∷ 0 ∷ 0 ∷ []

-- Char(3), Character(2), Varchars of 4 bytes and of 4 characters, Bit(8)
abbrev pub schema : List ℕ
schema = hex "09 03 00 0A 02 00 0B 04 00 10 04 00 0E 08 00"

-- of "A  ", "BC", "", "é", 41; the first text with another byte in front
abbrev pub texts : ℕ → List ℕ
texts first = hex "05 00 02 80 00 0F 00 0F 00" ++ (first ∷ hex "20 20 42 43 41 C3 A9")

unfoldable pub table : List Case
table =
    -- 1 and 2 come before 9
    (text_of (hex "00") [] 9 gives refused 1 0)
    ∷ (text_of (hex "06 00 00") [] 9 gives refused 2 0)
    -- Char(65535) is too much for a short row, not for a long one
    ∷ (text_of (hex "09 FF FF") [] 0 gives refused 2 3)
    ∷ (text_of (hex "09 FF FF") (hex "01 00 00 C0") 0 gives refused 3 0)
    -- 9, and 11 for Int, SmallInt and Bit, come before all that is wrong with the row
    ∷ (text_of S [] 3 gives refused 9 0)
    ∷ (text_of S [] 0 gives refused 11 0)
    ∷ (text_of S row2 2 gives refused 11 2)
    ∷ (text_of schema (texts 0x41) 4 gives refused 11 4)
    -- "as a read of that column": 4, 3, 5, 6, 3, 7, 8
    ∷ (text_of S (zeros 65536) 1 gives refused 4 0)
    ∷ (text_of S (hex "04 00 02") 1 gives refused 3 0)
    ∷ (text_of S (hex "04 00 02 80") 1 gives refused 5 0)
    ∷ (text_of S (hex "03 00 02 80") 1 gives refused 6 0)
    ∷ (text_of S (hex "03 00 01 80 00 63 00 00 00 00 00 00") 1 gives refused 3 0)
    ∷ (text_of S (hex "03 00 01 80 00 0E 00 00 00 00 00 00 00") 1 gives refused 7 1)
    ∷ (text_of S (hex "03 00 01 80 00 0D 00 00 00 00 00 00 00 FF") 1 gives refused 8 1)
    -- row 2, and its long twin
    ∷ (text_of S row2 1 gives 0 ∷ 0 ∷ 13 ∷ 2 ∷ hex "41 42")
    ∷ (text_of S (hex "03 00 01 C0 04 0F 00 00 00 01 00 00 00 00 00 41 42") 1 gives 0 ∷ 0 ∷ 15 ∷ 2 ∷ hex "41 42")
    -- nulls: the bit, or an offset of 0
    ∷ (text_of S (hex "03 00 01 80 02 0D 00 00 00 00 00 00 00 41 42") 1 gives 0 ∷ 0 ∷ 0 ∷ 0 ∷ [])
    ∷ (text_of S (hex "03 00 01 80 00 00 00 00 00 00 00 00 00 41 42") 1 gives 0 ∷ 0 ∷ 0 ∷ 0 ∷ [])
    -- a text has its blanks, an empty one its own start; another column's bytes are not looked at
    ∷ (text_of schema (texts 0x41) 0 gives 0 ∷ 0 ∷ 9 ∷ 3 ∷ hex "41 20 20")
    ∷ (text_of schema (texts 0x41) 1 gives 0 ∷ 0 ∷ 12 ∷ 2 ∷ hex "42 43")
    ∷ (text_of schema (texts 0xFF) 0 gives refused 8 0)
    ∷ (text_of schema (texts 0xFF) 2 gives 0 ∷ 0 ∷ 15 ∷ 0 ∷ [])
    ∷ (text_of schema (texts 0xFF) 3 gives 0 ∷ 0 ∷ 15 ∷ 2 ∷ hex "C3 A9")
    ∷ []
