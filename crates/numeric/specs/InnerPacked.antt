-- For the proofs: two digits a byte.
use Rattle.std.specs.Prelude.{ℕ, zero, suc, ◌+◌, ◌*◌, ◌/◌, ◌%◌, ◌^◌, ◌≤◌, ◌<◌, List, [], ◌∷◌, ◌≡◌, length, take, replicate}

abbrev pub two_digits : ℕ → ℕ
two_digits n = n / 10 * 16 + n % 10

-- the low 2 n digits of x, the highest first
unfoldable pub hundreds : ℕ → ℕ → List ℕ
hundreds zero x = []
hundreds (suc n) x = two_digits (x / 100 ^ n % 100) ∷ hundreds n x

-- zeros before `end`, enough for n
pub record Fresh (s : List ℕ) (end n : ℕ) : Type 0 where
  pub inside : end ≤ length s
  pub zeros : take end s ≡ replicate end 0
  pub room : n < 100 ^ end
