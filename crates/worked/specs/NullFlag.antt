-- 01, "Null flag (`is_column_null_in_row`, no schema): 4, 3, 9 against the header's count, 3 for a cut bitmap": each
-- number, which of two comes first, and flags.
use Rattle.std.specs.Prelude.{List, [], ◌∷◌, ◌++◌}
use Rattle.worked.specs.Cases.{Case}
use Rattle.worked.specs.Calls.{◌gives◌, refused, hex, zeros, row2, is_null}

unfoldable pub table : List Case
table =
    -- 4: "row above 65,535 bytes", here of no columns; not so with the mark of a long row
    (is_null (zeros 65536) 0 gives refused 4 0)
    ∷ (is_null (hex "01 00 00 C0" ++ zeros 65532) 0 gives 0 ∷ 0 ∷ 0 ∷ [])
    -- 3: "row under 4 bytes"
    ∷ (is_null [] 0 gives refused 3 0)
    ∷ (is_null (hex "03 00 01") 3 gives refused 3 0)
    -- 9: "column number too large", before the cut bitmap
    ∷ (is_null (hex "03 00 01 80") 3 gives refused 9 0)
    ∷ (is_null (hex "00 00 00 80") 0 gives refused 9 0)
    ∷ (is_null row2 3 gives refused 9 0)
    -- 3 for a bitmap of no byte, and of one where nine columns have two
    ∷ (is_null (hex "03 00 01 80") 2 gives refused 3 0)
    ∷ (is_null (hex "09 00 00 80 FF") 0 gives refused 3 0)
    -- "one bit a column, low bit first, set for null": row 2 has 04
    ∷ (is_null row2 0 gives 0 ∷ 0 ∷ 0 ∷ [])
    ∷ (is_null row2 1 gives 0 ∷ 0 ∷ 0 ∷ [])
    ∷ (is_null row2 2 gives 0 ∷ 0 ∷ 1 ∷ [])
    ∷ (is_null (hex "09 00 00 80 7F 01") 7 gives 0 ∷ 0 ∷ 0 ∷ [])
    ∷ (is_null (hex "09 00 00 80 7F 01") 8 gives 0 ∷ 0 ∷ 1 ∷ [])
    ∷ []
