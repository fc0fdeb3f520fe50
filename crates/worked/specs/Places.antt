-- 01, "Layout": "Sizes and alignments are those of `fixed_size` and `alignment`. Packed places fixed columns end to
-- end. Padded, flag clear, rounds each start up to its alignment, counted from the first fixed byte, with no padding at
-- the end."
use Rattle.std.specs.Prelude.{ℕ, Bool, true, false, List, [], ◌∷◌, map}
use Rattle.row_format.specs.Places.{minimum, offset_width, slot_place}
use Rattle.worked.specs.Cases.{Case, columns}
use Rattle.worked.specs.Calls.{◌gives◌, hex}

-- the minimum of short rows of a Bool and a column, packed and padded
abbrev pub behind_bool : List ℕ → List ℕ
behind_bool column =
    map (λ p. minimum (offset_width false) p (columns (8 ∷ column))) (true ∷ false ∷ [])

-- where the slots of Bool, SmallInt, Bool, Int, Bool, BigInt, Varchar(5) and Bool start in a row of a sort
abbrev pub starts : Bool → Bool → List ℕ
starts sort packed =
    map (slot_place (offset_width sort) packed (columns (hex "08 01 08 02 08 03 0B 05 00 08")))
    (0 ∷ 1 ∷ 2 ∷ 3 ∷ 4 ∷ 5 ∷ 7 ∷ [])

unfoldable pub table : List Case
unfolding columns
table =
    -- SmallInt, Int, BigInt, Real, DoublePrecision
    (behind_bool (hex "01") gives 8 ∷ 9 ∷ [])
    ∷ (behind_bool (hex "02") gives 10 ∷ 13 ∷ [])
    ∷ (behind_bool (hex "03") gives 14 ∷ 21 ∷ [])
    ∷ (behind_bool (hex "04") gives 10 ∷ 13 ∷ [])
    ∷ (behind_bool (hex "05") gives 14 ∷ 21 ∷ [])
    -- Numeric(4,2), Decimal(5,0), of three bytes each; Bool
    ∷ (behind_bool (hex "06 04 02") gives 9 ∷ 9 ∷ [])
    ∷ (behind_bool (hex "07 05 00") gives 9 ∷ 9 ∷ [])
    ∷ (behind_bool (hex "08") gives 7 ∷ 7 ∷ [])
    -- Char(9), Character(9); Varchars, which have an offset
    ∷ (behind_bool (hex "09 09 00") gives 15 ∷ 15 ∷ [])
    ∷ (behind_bool (hex "0A 09 00") gives 15 ∷ 15 ∷ [])
    ∷ (behind_bool (hex "0B 09 00") gives 8 ∷ 8 ∷ [])
    ∷ (behind_bool (hex "10 09 00") gives 8 ∷ 8 ∷ [])
    -- Date, Time; Bit(8), Bit(9); Timestamp
    ∷ (behind_bool (hex "0C") gives 10 ∷ 13 ∷ [])
    ∷ (behind_bool (hex "0D") gives 14 ∷ 21 ∷ [])
    ∷ (behind_bool (hex "0E 08 00") gives 7 ∷ 7 ∷ [])
    ∷ (behind_bool (hex "0E 09 00") gives 8 ∷ 8 ∷ [])
    ∷ (behind_bool (hex "0F") gives 14 ∷ 21 ∷ [])
    -- the first fixed byte is byte 7 of a short row, 9 of a long one: header, bitmap, an offset
    ∷ (starts false true gives 7 ∷ 8 ∷ 10 ∷ 11 ∷ 15 ∷ 16 ∷ 24 ∷ [])
    ∷ (starts false false gives 7 ∷ 9 ∷ 11 ∷ 15 ∷ 19 ∷ 23 ∷ 31 ∷ [])
    ∷ (starts true true gives 9 ∷ 10 ∷ 12 ∷ 13 ∷ 17 ∷ 18 ∷ 26 ∷ [])
    ∷ (starts true false gives 9 ∷ 11 ∷ 13 ∷ 17 ∷ 21 ∷ 25 ∷ 33 ∷ [])
    ∷ []
