-- FORMAT 3.5, 6. 01: the range of a Varchar, and what makes it no part of the row (answer 7: "start > end or end > row
-- length").
use Rattle.std.specs.Prelude.{ℕ, cond, List, eqb, ltb, length}
use Rattle.laws.specs.Bytes.{entry_at}
use Rattle.row_format.specs.Table.{range_end}
use Rattle.row_layout.specs.declared.VarlenRange.{VarlenRange}
use Rattle.row_layout.specs.declared.VarlenRange.TheVariants.{Null, Bytes, Outside}

-- from a up to e, in a row of n bytes
abbrev pub part_of : ℕ → ℕ → ℕ → VarlenRange
part_of n a e = cond (ltb e a) Outside (cond (ltb n e) Outside (Bytes a e))

-- rank k, in a row r with a table of v offsets of w bytes at byte `table`
abbrev pub varlen_range : ℕ → ℕ → ℕ → ℕ → List ℕ → VarlenRange
varlen_range w table v k r =
    cond (eqb (entry_at w table k r) 0) Null (part_of (length r) (entry_at w table k r) (range_end w table v k r))
