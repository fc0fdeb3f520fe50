-- A text looked through byte by byte.
use Rattle.std.specs.Prelude.{ℕ, Bool, List, [], ◌∷◌, ◌||◌, ◌≡◌, refl, eqb, ltb}
use Rattle.std.proofs.Common.{ap}
use Rattle.std.specs.List.{list_any}
use Rattle.occupation.specs.Occupation.{is_unprintable}

abbrev pub is_bad : ℕ → Bool
is_bad b = ltb b 32 || eqb b 0x22

pub any_bad : (t : List ℕ) → list_any is_bad t ≡ is_unprintable t
any_bad [] = refl
any_bad (b ∷ t) = ap (λ u. is_bad b || u) (any_bad t)
