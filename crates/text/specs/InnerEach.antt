-- A property of each number of a run.
use Rattle.std.specs.Prelude.{ℕ, ◌≤◌, ◌<◌, ◌≡◌, Bool, true}

-- p holds of the numbers from first on and below end
abbrev pub Each : (ℕ → Bool) → ℕ → ℕ → Type 0
Each p first end = (i : ℕ) → first ≤ i → i < end → p i ≡ true
