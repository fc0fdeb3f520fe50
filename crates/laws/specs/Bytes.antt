-- FORMAT 1.5. Numbers as bytes, tables of numbers, and bytes replaced in a list.
use Rattle.std.specs.Prelude.{ℕ, zero, suc, ◌+◌, ◌*◌, ◌/◌, ◌%◌, Bool, true, false, ◌&&◌, List, [], ◌∷◌, ◌++◌, eqb, take, drop}

-- x in w bytes, the low byte first ("numbers are little-endian"), and the number that bytes hold
abbrev pub to_le : ℕ → ℕ → List ℕ
to_le zero x = []
to_le (suc w) x = x % 256 ∷ to_le w (x / 256)

abbrev pub from_le : List ℕ → ℕ
from_le [] = 0
from_le (b ∷ bs) = b + 256 * from_le bs

-- a table of numbers, w bytes each, and its first v numbers
abbrev pub to_table : ℕ → List ℕ → List ℕ
to_table w [] = []
to_table w (x ∷ xs) = to_le w x ++ to_table w xs

abbrev pub from_table : ℕ → ℕ → List ℕ → List ℕ
from_table w zero t = []
from_table w (suc v) t = from_le (take w t) ∷ from_table w v (drop w t)

-- the number j of a table that starts at byte t of r
abbrev pub entry_at : ℕ → ℕ → ℕ → List ℕ → ℕ
entry_at w t j r = from_le (take w (drop (t + j * w) r))

-- the bytes of r from s up to e replaced by new
abbrev pub splice : ℕ → ℕ → List ℕ → List ℕ → List ℕ
splice s e new r = take s r ++ (new ++ drop e r)

-- lists end to end
abbrev pub concat : List (List ℕ) → List ℕ
concat [] = []
concat (b ∷ bs) = b ++ concat bs

-- whether two lists are the same
abbrev pub same_bytes : List ℕ → List ℕ → Bool
same_bytes [] [] = true
same_bytes [] (y ∷ ys) = false
same_bytes (x ∷ xs) [] = false
same_bytes (x ∷ xs) (y ∷ ys) = eqb x y && same_bytes xs ys
