-- FORMAT 5.1. 01, "Stored forms": "Numeric and Decimal: digits of the unscaled number, one a nibble, a zero nibble in
-- front when precision is even, then C or D; D only below zero".
use Rattle.std.specs.Prelude.{ℕ, zero, suc, ◌+◌, ◌*◌, ◌/◌, ◌%◌, ◌^◌, List, [], ◌∷◌, length}

-- the low n decimal digits of x, the highest first
unfoldable pub digits : ℕ → ℕ → List ℕ
digits zero x = []
digits (suc n) x = x / 10 ^ n % 10 ∷ digits n x

-- the number that decimal digits denote
abbrev pub denote : List ℕ → ℕ
denote [] = 0
denote (d ∷ ds) = d * 10 ^ length ds + denote ds
