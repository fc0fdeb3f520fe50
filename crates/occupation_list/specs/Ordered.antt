-- FORMAT 10.4. A list put in an order, in which those of equal rank stand as they came.
use Rattle.std.specs.Prelude.{Bool, cond, List, [], ◌∷◌}

-- x goes behind all that it is not before
abbrev pub inserted : {A : Type 0} → (A → A → Bool) → A → List A → List A
inserted lt x [] = x ∷ []
inserted lt x (y ∷ ys) = cond (lt x y) (x ∷ (y ∷ ys)) (y ∷ inserted lt x ys)

-- those of xs one after the other, to ys, which are in order
abbrev pub inserted_all : {A : Type 0} → (A → A → Bool) → List A → List A → List A
inserted_all lt ys [] = ys
inserted_all lt ys (x ∷ xs) = inserted_all lt (inserted lt x ys) xs

abbrev pub ordered : {A : Type 0} → (A → A → Bool) → List A → List A
ordered lt xs = inserted_all lt [] xs
