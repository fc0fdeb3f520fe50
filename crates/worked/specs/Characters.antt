-- 02, request 3, worked out: Varchars of at most n code points beside Varchars of at most n bytes, each case as what
-- the definitions compute beside what is stated.
use Rattle.std.specs.Prelude.{ℕ, false, List, [], ◌∷◌, ◌++◌, replicate}
use Rattle.row_decode.specs.Read.{read_call}
use Rattle.row_build.specs.Build.{fresh_call, build_call}
use Rattle.row_edit.specs.Edit.{set_null_call}
use Rattle.worked.specs.Cases.{Case, outcome}
use Rattle.worked.specs.Widths.{counted}

-- Varchars of n bytes, and of n code points
abbrev pub bytes : ℕ → List ℕ
bytes n = 0x0B ∷ n ∷ 0 ∷ []

abbrev pub characters : ℕ → List ℕ
characters n = 0x10 ∷ n ∷ 0 ∷ []

-- "é€", and a row with these bytes as the text of its one column
abbrev pub text : List ℕ
text = 0xC3 ∷ 0xA9 ∷ 0xE2 ∷ 0x82 ∷ 0xAC ∷ []

abbrev pub row_of : List ℕ → List ℕ
row_of x = 1 ∷ 0 ∷ 1 ∷ 0x80 ∷ 0 ∷ 7 ∷ 0 ∷ x

abbrev pub lent : List ℕ
lent = replicate 13 0xAA

-- a build of one text of n bytes, read of all columns, set null of column 0
abbrev pub build : List ℕ → ℕ → List ℕ → List ℕ
build schema n area =
    counted (build_call false schema (9 ∷ 0 ∷ 0 ∷ n ∷ 0 ∷ []) area lent (7 ∷ []))

abbrev pub read : List ℕ → List ℕ → List ℕ
read schema row = counted (read_call schema row (0 ∷ []) (replicate 5 0xAA) (7 ∷ []))

unfoldable pub table : List Case
table =
    -- "schema 10 02 00, "é€": row 01 00 01 80 00 07 00 C3 A9 E2 82 AC", with the count 2
    record { computed = build (characters 2) 5 text; stated = 0 ∷ 12 ∷ row_of text ++ (0xAA ∷ 2 ∷ []) }
    -- ""é€A": 12 place 0"; text that is none is 12 too
    ∷ record { computed = build (characters 2) 6 (text ++ (0x41 ∷ [])); stated = 12 ∷ 0 ∷ lent ++ (7 ∷ []) }
    ∷ record { computed = build (characters 2) 1 (0xFF ∷ []); stated = 12 ∷ 0 ∷ lent ++ (7 ∷ []) }
    -- "under 0B 02 00 "é€" is 12, under 0B 05 00 the same bytes"
    ∷ record { computed = build (bytes 2) 5 text; stated = 12 ∷ 0 ∷ lent ++ (7 ∷ []) }
    ∷ record { computed = build (bytes 5) 5 text; stated = 0 ∷ 12 ∷ row_of text ++ (0xAA ∷ 2 ∷ []) }
    -- "Row 01 00 01 80 00 07 00 41 42 43 under 10 02 00: read 8 place 0, set null 15; under 10 03 00 it reads 09 07 00
    -- 03 00."
    ∷ record {
      computed = read (characters 2) (row_of (0x41 ∷ 0x42 ∷ 0x43 ∷ []));
      stated = 8 ∷ 0 ∷ replicate 5 0xAA ++ (7 ∷ []);
    }
    ∷ record {
      computed = outcome (set_null_call (characters 2) (row_of (0x41 ∷ 0x42 ∷ 0x43 ∷ [])) 10 0);
      stated = 15 ∷ 0 ∷ row_of (0x41 ∷ 0x42 ∷ 0x43 ∷ []);
    }
    ∷ record {
      computed = read (characters 3) (row_of (0x41 ∷ 0x42 ∷ 0x43 ∷ []));
      stated = 0 ∷ 5 ∷ 9 ∷ 7 ∷ 0 ∷ 3 ∷ 0 ∷ 3 ∷ [];
    }
    -- five bytes are two code points
    ∷ record { computed = read (characters 2) (row_of text); stated = 0 ∷ 5 ∷ 9 ∷ 7 ∷ 0 ∷ 5 ∷ 0 ∷ 2 ∷ [] }
    ∷ record { computed = read (characters 2) (row_of (0xFF ∷ [])); stated = 8 ∷ 0 ∷ replicate 5 0xAA ++ (7 ∷ []) }
    -- "Two columns 10 01 00 0B 01 00, "é" and "A": 02 00 02 80 00 09 00 0B 00 C3 A9 41."
    ∷ record {
      computed =
          counted
          (build_call false (characters 1 ++ bytes 1) (9 ∷ 0 ∷ 0 ∷ 2 ∷ 0 ∷ 9 ∷ 2 ∷ 0 ∷ 1 ∷ 0 ∷ [])
          (0xC3 ∷ 0xA9 ∷ 0x41 ∷ []) (replicate 12 0xAA) (7 ∷ 7 ∷ []));
      stated =
          0 ∷ 12 ∷ 2 ∷ 0 ∷ 2 ∷ 0x80 ∷ 0 ∷ 9 ∷ 0 ∷ 0x0B ∷ 0 ∷ 0xC3 ∷ 0xA9 ∷ 0x41 ∷ 1 ∷ 1 ∷ [];
    }
    -- "n = 0 takes the empty text only"
    ∷ record { computed = build (characters 0) 0 []; stated = 0 ∷ 7 ∷ row_of [] ++ (replicate 6 0xAA ++ (0 ∷ [])) }
    ∷ record { computed = build (characters 0) 1 (0x41 ∷ []); stated = 12 ∷ 0 ∷ lent ++ (7 ∷ []) }
    -- "Schema 10 05 at the end (hexadecimal, cut) gives 1."
    ∷ record {
      computed = outcome (fresh_call false (2 ∷ 0x10 ∷ 5 ∷ []) lent);
      stated = 1 ∷ 1 ∷ lent;
    }
    -- "VALUE kinds 14, 15 and 16 stay unknown (10)."
    ∷ record {
      computed =
          counted
          (build_call false (characters 2) (0x10 ∷ 0 ∷ 0 ∷ 5 ∷ 0 ∷ []) text lent (7 ∷ []));
      stated = 10 ∷ 0 ∷ lent ++ (7 ∷ []);
    }
    ∷ []
