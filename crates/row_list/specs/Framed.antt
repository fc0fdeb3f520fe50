-- FORMAT 10.1. 02, request 2: "each after its length in two bytes little-endian": the list that has these rows.
use Rattle.std.specs.Prelude.{ℕ, List, [], ◌∷◌, ◌++◌, length}
use Rattle.laws.specs.Bytes.{to_le}

abbrev pub framed : List (List ℕ) → List ℕ
framed [] = []
framed (r ∷ rs) = to_le 2 (length r) ++ (r ++ framed rs)
