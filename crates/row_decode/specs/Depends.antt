-- Two rows that agree on what a read of the wanted columns depends on. FORMAT 7.1.
use Rattle.std.specs.Prelude.{ℕ, ◌<◌, Bool, true, List, ◌≡◌, length}
use Rattle.datatype.specs.declared.DataType.{DataType}
use Rattle.row_column.specs.Depends.{SameFor}

-- what each wanted column depends on
abbrev pub SameWanted : ℕ → Bool → List DataType → (ℕ → Bool) → List ℕ → List ℕ → Type 0
SameWanted w p ts wanted r r' = (i : ℕ) → i < length ts → wanted i ≡ true → SameFor w p ts i r r'
