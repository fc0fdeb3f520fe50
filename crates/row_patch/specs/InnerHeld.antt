-- 01, "After an edit, bytes past the new end are as before": a buffer whose first bytes are the row r now.
use Rattle.std.specs.Prelude.{ℕ, List, ◌++◌, ◌≡◌, length, drop}

abbrev pub held : List ℕ → List ℕ → List ℕ
held buf r = r ++ drop (length r) buf

-- the buffer q holds the row r, of m bytes, where buf held another
abbrev pub Holds : List ℕ → List ℕ → List ℕ → ℕ → Type 0
Holds buf r q m = (q ≡ held buf r) × (m ≡ length r)
