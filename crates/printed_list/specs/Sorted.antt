-- FORMAT 10.4. What it means that a list is put in order: it has the same elements, none stands behind one that it goes
-- before, and those of equal rank stand as they came.
use Rattle.std.specs.Prelude.{◌≡◌, Bool, false, cond, not, ◌||◌, List, [], ◌∷◌, ◌++◌}

-- P holds of each element
abbrev pub Every : {A : Type 0} → (A → Type 0) → List A → Type 0
Every P [] = Unit {0}
Every P (x ∷ xs) = P x × Every P xs

-- those for which p holds, as they stand
abbrev pub kept : {A : Type 0} → (A → Bool) → List A → List A
kept p [] = []
kept p (x ∷ xs) = cond (p x) (x ∷ kept p xs) (kept p xs)

-- no later one goes before an earlier one
abbrev pub Rises : {A : Type 0} → (A → A → Bool) → List A → Type 0
Rises lt [] = Unit {0}
Rises lt (x ∷ xs) = Every (λ y. lt y x ≡ false) xs × Rises lt xs

-- of equal rank: neither goes before the other
abbrev pub is_level : {A : Type 0} → (A → A → Bool) → A → A → Bool
is_level lt x y = not (lt x y || lt y x)

-- one element more, at any place of either list
pub data Permutes {A : Type 0} : List A → List A → Type 0 where
  none : Permutes [] []
  more : (x : A) (us vs ps qs : List A) → Permutes (us ++ vs) (ps ++ qs) → Permutes (us ++ x ∷ vs) (ps ++ x ∷ qs)

pub record InOrder {A : Type 0} (lt : A → A → Bool) (xs ys : List A) : Type 0 where
  pub permutes : Permutes xs ys
  pub rises : Rises lt ys
  pub stable : (x : A) → kept (is_level lt x) ys ≡ kept (is_level lt x) xs
