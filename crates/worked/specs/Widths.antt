-- 02, request 1, worked out: the text check with its number of code points, and the counts that building and reading
-- put, each as what the definitions compute beside what is stated.
use Rattle.std.specs.Prelude.{ℕ, false, List, [], ◌∷◌, ◌++◌, replicate, None, Option, Some}
use Rattle.error.specs.Answer.{Counted}
use Rattle.text.specs.Rfc3629.{code_points}
use Rattle.text.specs.Check.{check_of}
use Rattle.row_decode.specs.Read.{read_call}
use Rattle.row_build.specs.Build.{build_call}
use Rattle.worked.specs.Cases.{Case, answered}

-- the check's answer: 1 and the number, or 0 and 0
abbrev pub checked : List ℕ → List ℕ
checked s = told (check_of (code_points s))
  where
    told : Option ℕ → List ℕ
    told (Some n) = 1 ∷ n ∷ []
    told None = 0 ∷ 0 ∷ []

-- the answer, the lent bytes, the lent numbers
abbrev pub counted : Counted → List ℕ
counted o = answered o.0 ++ (o.1.0 ++ o.1.1)

-- Char(5), Varchar(5), Bit(3), Int
abbrev pub schema : List ℕ
schema = 9 ∷ 5 ∷ 0 ∷ 11 ∷ 5 ∷ 0 ∷ 14 ∷ 3 ∷ 0 ∷ 2 ∷ []

-- a text of n bytes, the text of five, the bits, null; an area whose first byte is a
abbrev pub values : ℕ → List ℕ
values n = 8 ∷ 0 ∷ 0 ∷ n ∷ 0 ∷ 9 ∷ 0 ∷ 0 ∷ 5 ∷ 0 ∷ 12 ∷ 5 ∷ 0 ∷ 1 ∷ 0 ∷ 0 ∷ []

abbrev pub area : ℕ → List ℕ
area a = a ∷ 0xA9 ∷ 0xE2 ∷ 0x82 ∷ 0xAC ∷ 0xC0 ∷ []

abbrev pub row : List ℕ
row =
    4 ∷ 0 ∷ 1 ∷ 0x80 ∷ 8 ∷ 0x11 ∷ 0 ∷ 0xC3 ∷ 0xA9 ∷ 0x20 ∷ 0x20 ∷ 0x20 ∷ 0xC0 ∷ 0 ∷ 0 ∷ 0 ∷ 0 ∷ 0xC3 ∷ 0xA9 ∷ 0xE2
    ∷ 0x82 ∷ 0xAC ∷ []

-- what is lent: room for the row and a byte more, or for the value list of a read; numbers
abbrev pub lent : ℕ → List ℕ
lent n = replicate n 0xAA

abbrev pub numbers : ℕ → List ℕ
numbers n = replicate n 7

-- "é", "é€", bits 110, null, and the same with the byte a first
abbrev pub build : ℕ → ℕ → ℕ → List ℕ
build a room count =
    counted (build_call false schema (values 2) (area a) (lent room) (numbers count))

abbrev pub read : List ℕ → ℕ → List ℕ
read wanted count = counted (read_call schema row wanted (lent 16) (numbers count))

unfoldable pub table : List Case
table =
    -- "C3 A9 E2 82 AC: valid, 2. C0 80: invalid. Empty: valid, 0. F4 8F BF BF: valid, 1."
    record { computed = checked (0xC3 ∷ 0xA9 ∷ 0xE2 ∷ 0x82 ∷ 0xAC ∷ []); stated = 1 ∷ 2 ∷ [] }
    ∷ record { computed = checked (0xC0 ∷ 0x80 ∷ []); stated = 0 ∷ 0 ∷ [] }
    ∷ record { computed = checked []; stated = 1 ∷ 0 ∷ [] }
    ∷ record { computed = checked (0xF4 ∷ 0x8F ∷ 0xBF ∷ 0xBF ∷ []); stated = 1 ∷ 1 ∷ [] }
    -- the row, "counts 4, 2, 0, 0"; a byte and a fifth number lent stay
    ∷ record { computed = build 0xC3 23 5; stated = 0 ∷ 22 ∷ row ++ (0xAA ∷ 4 ∷ 2 ∷ 0 ∷ 0 ∷ 7 ∷ []) }
    -- "Three numbers lent: 14, nothing written", with room for the row and without
    ∷ record { computed = build 0xC3 23 3; stated = 14 ∷ 0 ∷ lent 23 ++ numbers 3 }
    ∷ record { computed = build 0xC3 21 3; stated = 14 ∷ 0 ∷ lent 21 ++ numbers 3 }
    ∷ record { computed = build 0xC3 21 4; stated = 14 ∷ 0 ∷ lent 21 ++ numbers 4 }
    -- "Column 0 of byte FF with three numbers lent: 12 place 0."
    ∷ record { computed = build 0xFF 23 3; stated = 12 ∷ 0 ∷ lent 23 ++ numbers 3 }
    -- a read of all columns: their records, the same counts
    ∷ record {
      computed = read (0 ∷ 1 ∷ 2 ∷ 3 ∷ []) 4;
      stated =
          0 ∷ 16 ∷ 8 ∷ 7 ∷ 0 ∷ 5 ∷ 0 ∷ 9 ∷ 17 ∷ 0 ∷ 5 ∷ 0 ∷ 12 ∷ 12 ∷ 0 ∷ 1 ∷ 0 ∷ 0 ∷ 4 ∷ 2 ∷ 0 ∷ 0 ∷ [];
    }
    -- "a read of column 1 alone gives 0, 2, 0, 0, and a fifth number lent stays"
    ∷ record {
      computed = read (1 ∷ []) 5;
      stated = 0 ∷ 8 ∷ 0 ∷ 9 ∷ 17 ∷ 0 ∷ 5 ∷ 0 ∷ 0 ∷ 0 ∷ lent 8 ++ (0 ∷ 2 ∷ 0 ∷ 0 ∷ 7 ∷ []);
    }
    ∷ record { computed = read (1 ∷ []) 3; stated = 14 ∷ 0 ∷ lent 16 ++ numbers 3 }
    -- no columns need no list
    ∷ record {
      computed = counted (build_call false [] [] [] (lent 4) []);
      stated = 0 ∷ 4 ∷ 0 ∷ 0 ∷ 0 ∷ 0x80 ∷ [];
    }
    ∷ []
