-- 01, Set: "1, 2, 14 (row length), 15, 9, 10 (exactly one record), 11, 12, 13, 14. Set null: 1, 2, 14, 15, 9": each
-- number but 13 and which of two comes first, of the plain calls and of those over a handle. An answer is number, place
-- and length, then the buffer, and the handle. 13 takes a row of 65,535 bytes, whose edit is long to compute: the
-- tests of the Rust crate and of the model have it.
use Rattle.std.specs.Prelude.{ℕ, List, [], ◌∷◌, ◌++◌, take}
use Rattle.row_handle.specs.declared.RowHandle.{RowHandle}
use Rattle.worked.specs.Cases.{Case}
use Rattle.worked.specs.Calls.{◌gives◌, hex, zeros, lent, S, row2, varchars, varchars_row, ABCDEF, set, set_null, set_by, set_null_by, handle_told}

-- a handle of a row of n bytes, with numbers that no call gives
abbrev pub handle : ℕ → RowHandle
handle n =
    record {
      length = n;
      layout =
          record { num_columns = 91; num_varlen_cols = 92; fixed_size = 93; packed = 94; is_long = 95 };
    }

-- both calls
abbrev pub sets : List ℕ → List ℕ → ℕ → ℕ → List ℕ → List ℕ → List ℕ
sets schema buf n column values area =
    set schema buf n column values area ++ set_by (handle n) schema buf column values area

abbrev pub nulls : List ℕ → List ℕ → ℕ → ℕ → List ℕ
nulls schema buf n column = set_null schema buf n column ++ set_null_by (handle n) schema buf column

-- "A refusal changes no lent byte", and the length is the one that the call got
abbrev pub refused_both : ℕ → ℕ → ℕ → List ℕ → List ℕ
refused_both number place n buf =
    (number ∷ place ∷ n ∷ buf) ++ ((number ∷ place ∷ n ∷ buf) ++ handle_told (handle n))

-- the new length n and the buffer; the handle gets n, and the layout: columns, Varchars, bytes of the fixed columns,
-- whether packed, whether long
abbrev pub done : ℕ → List ℕ → List ℕ → List ℕ
done n layout buf = (0 ∷ 0 ∷ n ∷ buf) ++ ((0 ∷ 0 ∷ n ∷ buf) ++ (n ∷ layout))

-- 11: "Row 2 with offset 0 and bitmap 04: [..] an edit gives 15", before 9
abbrev pub row11 : List ℕ
row11 = hex "03 00 01 80 04 00 00 01 00 00 00 00 00 41 42"

-- S with the row 2, a set of a column
abbrev pub set_s : ℕ → List ℕ → List ℕ → List ℕ
set_s column values area = sets S row2 15 column values area

-- column 0 of a row of S set null, number and place alone
abbrev pub null_of : List ℕ → List ℕ
null_of row = take 2 (set_null S row 15 0)

abbrev pub refused_of : ℕ → List ℕ
refused_of number = number ∷ 0 ∷ []

unfoldable pub set_values : List Case
set_values =
    -- 1 and 2 come before 14, 14 (row length) before 15, 15 before 9, 9 before 10
    (sets (hex "00") [] 9 9 (hex "0E") [] gives refused_both 1 0 9 [])
    ∷ (sets (hex "06 00 00") [] 9 9 (hex "0E") [] gives refused_both 2 0 9 [])
    ∷ (sets S (lent 3) 4 9 (hex "0E") [] gives refused_both 14 0 4 (lent 3))
    ∷ (sets S row11 15 3 (hex "0E") [] gives refused_both 15 0 15 row11)
    ∷ (sets S row2 12 3 (hex "0E") [] gives refused_both 15 0 12 row2)
    ∷ (set_s 3 (hex "0E") [] gives refused_both 9 0 15 row2)
    -- 10: unknown kind, cut, "exactly one record", text area; before 11
    ∷ (set_s 0 (hex "0E") [] gives refused_both 10 0 15 row2)
    ∷ (set_s 0 (hex "02 01 00 00") [] gives refused_both 10 0 15 row2)
    ∷ (set_s 0 [] [] gives refused_both 10 0 15 row2)
    ∷ (set_s 0 (hex "00 00") [] gives refused_both 10 2 15 row2)
    ∷ (set S row2 15 0 (hex "00") (zeros 65536) gives 10 ∷ 0 ∷ 15 ∷ row2)
    -- 11: "null given to a set"; another kind, before 12: a Bool of 2
    ∷ (set_s 1 (hex "00") [] gives refused_both 11 1 15 row2)
    ∷ (set_s 2 (hex "07 02") [] gives refused_both 11 2 15 row2)
    -- 12 before 14: the row would have 19 bytes
    ∷ (set_s 1 (hex "09 00 00 06 00") ABCDEF gives refused_both 12 1 15 row2)
    ∷ (set_s 1 (hex "09 05 00 02 00") ABCDEF gives refused_both 12 1 15 row2)
    -- 14: "lent output shorter than the result", of 18 bytes
    ∷ (set_s 1 (hex "09 00 00 05 00") ABCDEF gives refused_both 14 0 15 row2)
    ∷ (sets S (row2 ++ lent 2) 15 1 (hex "09 00 00 05 00") ABCDEF gives refused_both 14 0 15 (row2 ++ lent 2))
    -- accepted: column 1 of row 2 set to "ABC"
    ∷ (sets S (row2 ++ lent 2) 15 1 (hex "09 00 00 03 00") ABCDEF
    gives done 16 (3 ∷ 1 ∷ 6 ∷ 1 ∷ 0 ∷ []) (hex "03 00 01 80 04 0D 00 01 00 00 00 00 00 41 42 43 EE"))
    -- of "A", null, "B" the first set to "CD": the offset of the third moves, 0 stays; the second set to "CD"
    ∷ (sets varchars (varchars_row ++ lent 2) 13 0 (hex "09 02 00 02 00") ABCDEF
    gives done 14 (3 ∷ 3 ∷ 0 ∷ 1 ∷ 0 ∷ []) (hex "03 00 03 80 02 0B 00 00 00 0D 00 43 44 42 EE"))
    ∷ (sets varchars (varchars_row ++ lent 2) 13 1 (hex "09 02 00 02 00") ABCDEF
    gives done 15 (3 ∷ 3 ∷ 0 ∷ 1 ∷ 0 ∷ []) (hex "03 00 03 80 00 0B 00 0C 00 0E 00 41 43 44 42"))
    -- the BigInt of a padded row, which starts at 8 of the fixed bytes
    ∷ (sets (hex "01 03") (hex "02 00 00 00 02 07 00 EE EE EE EE EE EE 00 00 00 00 00 00 00 00") 21 1
    (hex "03 01 02 03 04 05 06 07 08") []
    gives done 21 (2 ∷ 0 ∷ 16 ∷ 0 ∷ 0 ∷ [])
    (hex "02 00 00 00 00 07 00 EE EE EE EE EE EE 01 02 03 04 05 06 07 08"))
    ∷ []

unfoldable pub set_nulls : List Case
set_nulls =
    (nulls (hex "00") [] 9 9 gives refused_both 1 0 9 [])
    ∷ (nulls (hex "06 00 00") [] 9 9 gives refused_both 2 0 9 [])
    ∷ (nulls S (lent 3) 4 9 gives refused_both 14 0 4 (lent 3))
    ∷ (nulls S row11 15 3 gives refused_both 15 0 15 row11)
    ∷ (nulls S row2 3 3 gives refused_both 15 0 3 row2)
    ∷ (nulls S row2 15 3 gives refused_both 9 0 15 row2)
    -- 15: a column that does not read; a null with an offset, an offset of 0 that is no null; a first offset that is
    -- not the minimum; with none, a row above the minimum
    ∷ (null_of (hex "03 00 01 80 04 0D 00 01 00 00 00 00 00 41 FF") gives refused_of 15)
    ∷ (null_of (hex "03 00 01 80 06 0D 00 01 00 00 00 00 00 41 42") gives refused_of 15)
    ∷ (take 2 (set_null S (hex "03 00 01 80 04 00 00 01 00 00 00 00 00") 13 0) gives refused_of 15)
    ∷ (null_of (hex "03 00 01 80 04 0E 00 01 00 00 00 00 00 41 42") gives refused_of 15)
    ∷ (null_of (hex "03 00 01 80 06 00 00 01 00 00 00 00 00 41 42") gives refused_of 15)
    -- accepted: "Bitmap bits past the last column are not looked at"; the slot of a fixed column stays; the first of
    -- "A", null, "B"
    ∷ (set_null S (hex "03 00 01 80 F4 0D 00 01 00 00 00 00 00 41 42") 15 0
    gives 0 ∷ 0 ∷ 15 ∷ hex "03 00 01 80 F5 0D 00 01 00 00 00 00 00 41 42")
    ∷ (set_null varchars varchars_row 13 0 gives 0 ∷ 0 ∷ 12 ∷ hex "03 00 03 80 03 00 00 00 00 0B 00 42 42")
    -- column 1 of row 2, and of its long twin
    ∷ (nulls S row2 15 1
    gives done 13 (3 ∷ 1 ∷ 6 ∷ 1 ∷ 0 ∷ []) (hex "03 00 01 80 06 00 00 01 00 00 00 00 00 41 42"))
    ∷ (nulls S (hex "03 00 01 C0 04 0F 00 00 00 01 00 00 00 00 00 41 42") 17 1
    gives done 15 (3 ∷ 1 ∷ 6 ∷ 1 ∷ 1 ∷ []) (hex "03 00 01 C0 06 00 00 00 00 01 00 00 00 00 00 41 42"))
    ∷ []
