-- Two lists that go together element by element.
use Rattle.std.specs.Prelude.{List, [], ◌∷◌}

pub data Forall₂ {A B : Type 0} (R : A → B → Type 0) : List A → List B → Type 0 where
  nil : Forall₂ R [] []
  cons : {a : A} {b : B} {xs : List A} {ys : List B} → R a b → Forall₂ R xs ys → Forall₂ R (a ∷ xs) (b ∷ ys)
