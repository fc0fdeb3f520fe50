-- 01, "Platform rows worked out": the cases marked (P) and case 11, and RFC 3629's examples (section 7), each as what
-- the definitions compute beside what the paper states. "S is Int, Varchar(5), SmallInt."
use Rattle.error.specs.Result.{Result}
use Rattle.std.specs.Prelude.{ℕ, true, false, List, [], ◌∷◌, ◌++◌, map, ◌≡◌, replicate, ℤ, pos, negsuc, Err, Ok}
use Rattle.std.proofs.Math.Option.{Option, none, some}
use Rattle.error.specs.Refusal.{number_of as numberFor, place_of}
use Rattle.error.specs.Answer.{Outcome, Counted}
use Rattle.laws.specs.Bits.{bit_value}
use Rattle.laws.specs.Bytes.{to_le}
use Rattle.row_format.specs.declared.Shape.{Shape}
use Rattle.row_format.specs.Places.{minimum, offset_width}
use Rattle.row_format.specs.Table.{Cell}
use Rattle.row_format.specs.Row.{packed_marks, built_row}
use Rattle.datatype.specs.Types.{shape_of}
use Rattle.datatype.specs.Schema.{Parsed, schema_of}
use Rattle.text.specs.Rfc3629.{code_points, is_text}
use Rattle.std.specs.Int.{w32, w64}
use Rattle.std.proofs.Common.{of_z}
use Rattle.datatype.specs.declared.DataType.TheVariants as T
use Rattle.value.specs.declared.DataValue.TheVariants.{Numeric}
use Rattle.stored_form.specs.Number.{numeric_of}
use Rattle.stored_form.specs.Write.{stored_form}
use Rattle.row_decode.specs.Read.{read_call}
use Rattle.row_build.specs.Build.{fresh_call, build_call}
use Rattle.row_edit.specs.Edit.{set_call, set_null_call}

pub record Case : Type 0 where
  pub computed : List ℕ
  pub stated : List ℕ

-- each case computes to what is stated
abbrev pub AllHold : List Case → Type 0
AllHold cases = map (λ c. c.computed) cases ≡ map (λ c. c.stated) cases

-- the columns of a schema's bytes
abbrev pub shapes_in : Parsed → List Shape
shapes_in (Ok ts) = map shape_of ts
shapes_in (Err r) = []

unfoldable pub columns : List ℕ → List Shape
columns schema = shapes_in (schema_of false schema)

abbrev pub schema : List ℕ
schema = 2 ∷ 11 ∷ 5 ∷ 0 ∷ 1 ∷ []

unfoldable pub S : List Shape
unfolding columns
S = columns schema

unfoldable pub row : List Cell → List ℕ
unfolding S
row cells = built_row (offset_width false) (packed_marks false) S cells

abbrev pub one : Cell
one = some (to_le 4 1)

-- 0 and the length, or number and place; then the lent bytes
abbrev pub answered : Result ℕ → List ℕ
answered (Ok n) = 0 ∷ n ∷ []
answered (Err e) = numberFor e ∷ place_of e ∷ []

abbrev pub outcome : Outcome → List ℕ
outcome o = answered o.0 ++ o.1

-- without the numbers of the list of counts, which specs/Widths is about
abbrev pub without_counts : Counted → List ℕ
without_counts o = answered o.0 ++ o.1.0

abbrev pub lent : List ℕ
lent = replicate 10 0xAA

-- a read of column 1 into the lent bytes, where the row has a Bool and a column of the kind with the slot's bytes
abbrev pub read_column : ℕ → List ℕ → List ℕ
read_column kind slot =
    without_counts
    (read_call (8 ∷ kind ∷ []) (2 ∷ 0 ∷ 0 ∷ 0x80 ∷ 0 ∷ 1 ∷ slot) (1 ∷ []) lent (replicate 2 0))

abbrev pub time : ℤ → List ℕ
time z = read_column 13 (to_le 8 (of_z w64 z))

abbrev pub date : ℤ → List ℕ
date z = read_column 12 (to_le 4 (of_z w32 z))

-- a number, if there is one
abbrev pub listed : Option ℕ → List ℕ
listed none = []
listed (some n) = n ∷ []

-- row 2 in a buffer with a byte more
abbrev pub row2 : List ℕ
row2 = 3 ∷ 0 ∷ 1 ∷ 0x80 ∷ 4 ∷ 0x0D ∷ 0 ∷ 1 ∷ 0 ∷ 0 ∷ 0 ∷ 0 ∷ 0 ∷ 0x41 ∷ 0x42 ∷ 0xAA ∷ []

-- "Row 2 with offset 0 and bitmap 04"
abbrev pub row11 : List ℕ
row11 = 3 ∷ 0 ∷ 1 ∷ 0x80 ∷ 4 ∷ 0 ∷ 0 ∷ 1 ∷ 0 ∷ 0 ∷ 0 ∷ 0 ∷ 0 ∷ 0x41 ∷ 0x42 ∷ []

unfoldable pub table : List Case
unfolding row columns
table =
    -- 1. "S fresh: 03 00 01 80 07 00 00, six 00."
    record {
      computed = row (none ∷ none ∷ none ∷ []);
      stated = 3 ∷ 0 ∷ 1 ∷ 0x80 ∷ 7 ∷ 0 ∷ 0 ∷ replicate 6 0;
    }
    ∷ record {
      computed = outcome (fresh_call false schema (replicate 14 0xAA));
      stated = 0 ∷ 13 ∷ 3 ∷ 0 ∷ 1 ∷ 0x80 ∷ 7 ∷ 0 ∷ 0 ∷ 0 ∷ 0 ∷ 0 ∷ 0 ∷ 0 ∷ 0 ∷ 0xAA ∷ [];
    }
    -- 2. "S of 1, "AB", null: 03 00 01 80 04 0D 00 01 00 00 00 00 00 41 42."
    ∷ record {
      computed = row (one ∷ some (0x41 ∷ 0x42 ∷ []) ∷ none ∷ []);
      stated = 3 ∷ 0 ∷ 1 ∷ 0x80 ∷ 4 ∷ 0x0D ∷ 0 ∷ 1 ∷ 0 ∷ 0 ∷ 0 ∷ 0 ∷ 0 ∷ 0x41 ∷ 0x42 ∷ [];
    }
    ∷ record {
      computed =
          without_counts
          (build_call false schema
          (2 ∷ 1 ∷ 0 ∷ 0 ∷ 0 ∷ 9 ∷ 0 ∷ 0 ∷ 2 ∷ 0 ∷ 0 ∷ []) (0x41 ∷ 0x42 ∷ []) (replicate 16 0xAA) (replicate 3 0));
      stated = 0 ∷ 15 ∷ row2;
    }
    -- 3. "Column 1 of it set to empty: 13 bytes, offset 0D 00."
    ∷ record {
      computed = row (one ∷ some [] ∷ none ∷ []);
      stated = 3 ∷ 0 ∷ 1 ∷ 0x80 ∷ 4 ∷ 0x0D ∷ 0 ∷ 1 ∷ 0 ∷ 0 ∷ 0 ∷ 0 ∷ 0 ∷ [];
    }
    ∷ record {
      computed = outcome (set_call schema row2 15 1 (9 ∷ 0 ∷ 0 ∷ 0 ∷ 0 ∷ []) []);
      stated = 0 ∷ 13 ∷ 3 ∷ 0 ∷ 1 ∷ 0x80 ∷ 4 ∷ 0x0D ∷ 0 ∷ 1 ∷ 0 ∷ 0 ∷ 0 ∷ 0 ∷ 0 ∷ 0x41 ∷ 0x42 ∷ 0xAA ∷ [];
    }
    -- 4. "Column 1 set null instead: 13 bytes, bitmap 06, offset 00 00."
    ∷ record {
      computed = row (one ∷ none ∷ none ∷ []);
      stated = 3 ∷ 0 ∷ 1 ∷ 0x80 ∷ 6 ∷ 0 ∷ 0 ∷ 1 ∷ 0 ∷ 0 ∷ 0 ∷ 0 ∷ 0 ∷ [];
    }
    ∷ record {
      computed = outcome (set_null_call schema row2 15 1);
      stated = 0 ∷ 13 ∷ 3 ∷ 0 ∷ 1 ∷ 0x80 ∷ 6 ∷ 0 ∷ 0 ∷ 1 ∷ 0 ∷ 0 ∷ 0 ∷ 0 ∷ 0 ∷ 0x41 ∷ 0x42 ∷ 0xAA ∷ [];
    }
    -- 5. "SmallInt, Int: minimum 11 packed, 13 padded."
    ∷ record {
      computed = map (λ p. minimum (offset_width false) p (columns (1 ∷ 2 ∷ []))) (true ∷ false ∷ []);
      stated = 11 ∷ 13 ∷ [];
    }
    -- 6. "Numeric(4,2) of −12.34: 01 23 4D. Numeric(3,0) of 7: 00 7C."
    ∷ record {
      computed = stored_form (T.Numeric 4 2) (Numeric (numeric_of true 1234 2)) [];
      stated = 0x01 ∷ 0x23 ∷ 0x4D ∷ [];
    }
    ∷ record {
      computed = stored_form (T.Numeric 3 0) (Numeric (numeric_of false 7 0)) [];
      stated = 0x00 ∷ 0x7C ∷ [];
    }
    -- 7. "Time 86,399,999,999 read; [..]": null for column 0, then the value's record; the number is 14 1D D7 5F FF
    ∷ record {
      computed = time (pos 86399999999);
      stated = 0 ∷ 10 ∷ 0 ∷ 11 ∷ 0xFF ∷ 0x5F ∷ 0xD7 ∷ 0x1D ∷ 0x14 ∷ 0 ∷ 0 ∷ 0 ∷ [];
    }
    -- "[..] 86,400,000,000 gives 8; [..]": at column 1, the lent bytes as before
    ∷ record { computed = time (pos 86400000000); stated = 8 ∷ 1 ∷ lent }
    -- "[..] −1 gives 8; [..]"
    ∷ record { computed = time (negsuc 0); stated = 8 ∷ 1 ∷ lent }
    -- "[..] 4,294,967,296,000,000 reads as 0."
    ∷ record {
      computed = time (pos 4294967296000000);
      stated = 0 ∷ 10 ∷ 0 ∷ 11 ∷ 0 ∷ 0 ∷ 0 ∷ 0 ∷ 0 ∷ 0 ∷ 0 ∷ 0 ∷ [];
    }
    -- 8. "Date 2,932,896 read, [..]": the number is 2C C0 A0
    ∷ record { computed = date (pos 2932896); stated = 0 ∷ 6 ∷ 0 ∷ 10 ∷ 0xA0 ∷ 0xC0 ∷ 0x2C ∷ 0 ∷ replicate 4 0xAA }
    -- "[..] 2,932,897 gives 8."
    ∷ record { computed = date (pos 2932897); stated = 8 ∷ 1 ∷ lent }
    -- 9. "Text ED A0 80, C0 80 and F4 90 80 80 invalid; F4 8F BF BF valid."
    ∷ record {
      computed =
          map (λ s. bit_value (is_text s))
          ((0xED ∷ 0xA0 ∷ 0x80 ∷ []) ∷ (0xC0 ∷ 0x80 ∷ []) ∷ (0xF4 ∷ 0x90 ∷ 0x80 ∷ 0x80 ∷ [])
          ∷ (0xF4 ∷ 0x8F ∷ 0xBF ∷ 0xBF ∷ []) ∷ []);
      stated = 0 ∷ 0 ∷ 0 ∷ 1 ∷ [];
    }
    -- 11, which is not marked. "Row 2 with offset 0 and bitmap 04: column 1 reads as null; an edit gives 15."
    ∷ record {
      computed =
          without_counts (read_call schema row11 (1 ∷ []) (replicate 4 0xAA) (replicate 3 0));
      stated = 0 ∷ 3 ∷ 0 ∷ 0 ∷ 0 ∷ 0xAA ∷ [];
    }
    ∷ record {
      computed = outcome (set_call schema row11 15 1 (9 ∷ 0 ∷ 0 ∷ 0 ∷ 0 ∷ []) []);
      stated = 15 ∷ 0 ∷ row11;
    }
    -- RFC 3629, section 7: the number of the code points that each example encodes
    -- U+0041 U+2262 U+0391 U+002E
    ∷ record {
      computed = listed (code_points (0x41 ∷ 0xE2 ∷ 0x89 ∷ 0xA2 ∷ 0xCE ∷ 0x91 ∷ 0x2E ∷ []));
      stated = 4 ∷ [];
    }
    -- U+D55C U+AD6D U+C5B4
    ∷ record {
      computed = listed (code_points (0xED ∷ 0x95 ∷ 0x9C ∷ 0xEA ∷ 0xB5 ∷ 0xAD ∷ 0xEC ∷ 0x96 ∷ 0xB4 ∷ []));
      stated = 3 ∷ [];
    }
    -- U+65E5 U+672C U+8A9E
    ∷ record {
      computed = listed (code_points (0xE6 ∷ 0x97 ∷ 0xA5 ∷ 0xE6 ∷ 0x9C ∷ 0xAC ∷ 0xE8 ∷ 0xAA ∷ 0x9E ∷ []));
      stated = 3 ∷ [];
    }
    -- U+233B4 behind a byte order mark, U+FEFF
    ∷ record {
      computed = listed (code_points (0xEF ∷ 0xBB ∷ 0xBF ∷ 0xF0 ∷ 0xA3 ∷ 0x8E ∷ 0xB4 ∷ []));
      stated = 2 ∷ [];
    }
    ∷ []
