-- 02, request 5: examples of long rows, each as what the calls answer and leave beside what is stated. S is Int,
-- Varchar(5), SmallInt.
use Rattle.std.specs.Prelude.{ℕ, true, false, List, [], ◌∷◌, ◌++◌, replicate}
use Rattle.row_build.specs.Build.{fresh_call, build_call}
use Rattle.row_decode.specs.Read.{read_call}
use Rattle.row_edit.specs.Edit.{set_call, set_null_call}
use Rattle.worked.specs.Cases.{Case, schema, outcome, without_counts}

-- bytes that are lent, and column numbers that are wanted
abbrev pub lent : ℕ → List ℕ
lent n = replicate n 0xEE

abbrev pub all : List ℕ
all = 0 ∷ 1 ∷ 2 ∷ []

-- S of 1, "AB", null: the long row, the text "AB", and the list that it reads as
abbrev pub long2 : List ℕ
long2 = 3 ∷ 0 ∷ 1 ∷ 0xC0 ∷ 4 ∷ 0x0F ∷ 0 ∷ 0 ∷ 0 ∷ 1 ∷ 0 ∷ 0 ∷ 0 ∷ 0 ∷ 0 ∷ 0x41 ∷ 0x42 ∷ []

abbrev pub text : List ℕ
text = 0x41 ∷ 0x42 ∷ []

-- 1, a range at `start` of kind 18, and null
abbrev pub values : ℕ → List ℕ
values start = 2 ∷ 1 ∷ 0 ∷ 0 ∷ 0 ∷ 0x12 ∷ start ∷ 0 ∷ 0 ∷ 0 ∷ 2 ∷ 0 ∷ 0 ∷ 0 ∷ 0 ∷ []

-- Char(65535)
abbrev pub widest : List ℕ
widest = 9 ∷ 0xFF ∷ 0xFF ∷ []

abbrev pub read_widest : List ℕ → List ℕ
read_widest r = without_counts (read_call widest r [] [] (0 ∷ []))

-- a list of one record of a kind, for the one column of a schema
abbrev pub build_kind : ℕ → List ℕ
build_kind kind = without_counts (build_call true (2 ∷ []) (kind ∷ replicate 8 0) [] [] (0 ∷ []))

unfoldable pub table : List Case
table =
    -- "fresh long 03 00 01 C0 07 00 00 00 00, six 00: 15 bytes"
    record {
      computed = outcome (fresh_call true schema (lent 16));
      stated = 0 ∷ 15 ∷ 3 ∷ 0 ∷ 1 ∷ 0xC0 ∷ 7 ∷ 0 ∷ 0 ∷ 0 ∷ 0 ∷ replicate 6 0 ++ (0xEE ∷ []);
    }
    -- "Of 1, "AB", null"; no columns
    ∷ record {
      computed = without_counts (build_call true schema (values 0) text (lent 17) (replicate 3 0));
      stated = 0 ∷ 17 ∷ long2;
    }
    ∷ record {
      computed = outcome (fresh_call true [] (lent 4));
      stated = 0 ∷ 4 ∷ 0 ∷ 0 ∷ 0 ∷ 0xC0 ∷ [];
    }
    -- "it reads"
    ∷ record {
      computed = without_counts (read_call schema long2 all (lent 15) (replicate 3 0));
      stated = 0 ∷ 15 ∷ values 0x0F;
    }
    -- "builds the SHORT row too"
    ∷ record {
      computed = without_counts (build_call false schema (values 0) text (lent 15) (replicate 3 0));
      stated = 0 ∷ 15 ∷ 3 ∷ 0 ∷ 1 ∷ 0x80 ∷ 4 ∷ 0x0D ∷ 0 ∷ 1 ∷ 0 ∷ 0 ∷ 0 ∷ 0 ∷ 0 ∷ text;
    }
    -- kinds 8, 9 and 12 build the long row as 17, 18 and 19 do
    ∷ record {
      computed =
          without_counts
          (build_call true schema (2 ∷ 1 ∷ 0 ∷ 0 ∷ 0 ∷ 9 ∷ 0 ∷ 0 ∷ 2 ∷ 0 ∷ 0 ∷ []) text (lent 17) (replicate 3 0));
      stated = 0 ∷ 17 ∷ long2;
    }
    -- column 1 set to empty: 15 bytes, offset 0F 00 00 00; set null: bitmap 06, offset 0
    ∷ record {
      computed = outcome (set_call schema long2 17 1 (0x12 ∷ replicate 8 0) []);
      stated = 0 ∷ 15 ∷ long2;
    }
    ∷ record {
      computed = outcome (set_null_call schema long2 17 1);
      stated = 0 ∷ 15 ∷ 3 ∷ 0 ∷ 1 ∷ 0xC0 ∷ 6 ∷ 0 ∷ 0 ∷ 0 ∷ 0 ∷ 1 ∷ 0 ∷ 0 ∷ 0 ∷ 0 ∷ 0 ∷ text;
    }
    -- a padded long row stays padded and long
    ∷ record {
      computed =
          outcome
          (set_null_call schema
          (3 ∷ 0 ∷ 1 ∷ 0x40 ∷ 4 ∷ 0x0F ∷ 0 ∷ 0 ∷ 0 ∷ 1 ∷ 0 ∷ 0 ∷ 0 ∷ 0 ∷ 0 ∷ text) 17 1);
      stated = 0 ∷ 15 ∷ 3 ∷ 0 ∷ 1 ∷ 0x40 ∷ 6 ∷ 0 ∷ 0 ∷ 0 ∷ 0 ∷ 1 ∷ 0 ∷ 0 ∷ 0 ∷ 0 ∷ 0 ∷ text;
    }
    -- "Char(65535), 09 FF FF: row 01 00 00 80 gives 2 place 3, row 01 00 00 C0 gives 3, row 01 00 C0 gives 2 place 3"
    ∷ record { computed = read_widest (1 ∷ 0 ∷ 0 ∷ 0x80 ∷ []); stated = 2 ∷ 3 ∷ [] }
    ∷ record { computed = read_widest (1 ∷ 0 ∷ 0 ∷ 0xC0 ∷ []); stated = 3 ∷ 0 ∷ [] }
    ∷ record { computed = read_widest (1 ∷ 0 ∷ 0xC0 ∷ []); stated = 2 ∷ 3 ∷ [] }
    -- "A stated length beyond the buffer: 2 by the short limit, then 14"
    ∷ record {
      computed = outcome (set_null_call widest (1 ∷ 0 ∷ 0 ∷ 0xC0 ∷ []) 5 0);
      stated = 2 ∷ 3 ∷ 1 ∷ 0 ∷ 0 ∷ 0xC0 ∷ [];
    }
    ∷ record {
      computed = outcome (set_null_call schema (1 ∷ 0 ∷ 0 ∷ 0xC0 ∷ []) 5 0);
      stated = 14 ∷ 0 ∷ 1 ∷ 0 ∷ 0 ∷ 0xC0 ∷ [];
    }
    -- "Header 00 00 01 60 of no columns: 6"
    ∷ record {
      computed = without_counts (read_call [] (0 ∷ 0 ∷ 1 ∷ 0x60 ∷ []) [] [] []);
      stated = 6 ∷ 0 ∷ [];
    }
    -- "Kinds 14, 15, 16 and from 20 on stay unknown"
    ∷ record { computed = build_kind 14 ++ build_kind 15; stated = 10 ∷ 0 ∷ 10 ∷ 0 ∷ [] }
    ∷ record { computed = build_kind 16 ++ build_kind 20; stated = 10 ∷ 0 ∷ 10 ∷ 0 ∷ [] }
    -- "A range of start FFFFFFFF and length FFFFFFFF: 12"
    ∷ record {
      computed =
          without_counts (build_call true (0x0B ∷ 5 ∷ 0 ∷ []) (0x12 ∷ replicate 8 0xFF) text [] (0 ∷ []));
      stated = 12 ∷ 0 ∷ [];
    }
    ∷ []
