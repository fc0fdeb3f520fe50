-- A list whose elements are each replaced by another.
use Prim.Native.Nat.{ℕ, zero, suc}
use mathlib.Core.Path.{◌≡◌, refl, ap}
use mathlib.Core.List.{List, [], ◌∷◌, map}
use lib.ListN.{get_or, take}

module _ {A B : Type 0} (f : A → B) where
  pub take-map : (i : ℕ) (xs : List A) → take i (map f xs) ≡ map f (take i xs)
  take-map zero xs = refl
  take-map (suc i) [] = refl
  take-map (suc i) (x ∷ xs) = ap (λ (ys : List B). f x ∷ ys) (take-map i xs)

  pub at_map : (i : ℕ) (xs : List A) (d : A) → get_or (map f xs) i (f d) ≡ f (get_or xs i d)
  at_map i [] d = refl
  at_map zero (x ∷ xs) d = refl
  at_map (suc i) (x ∷ xs) d = at_map i xs d
