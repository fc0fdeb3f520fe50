-- Two lists that go together: their lengths, their elements at an index, and both cut there.
use Prim.Native.Nat.{ℕ, zero, suc, ◌<◌}
use mathlib.Core.Path.{◌≡◌, refl, ap}
use mathlib.Core.List.{List, [], ◌∷◌, ◌++◌}
use native.Mathlib.Omega.{arith}
use lib.ListN.{length, get_or}
use Rattle.laws.specs.InnerForall.{Forall₂, nil, cons}

-- what holds of a list cut at an index holds of the list at that index
pub by_cut : {A : Type 0} (P : List A → ℕ → Type 0) → ((us : List A) (x : A) (vs : List A) → P (us ++ x ∷ vs) (length us)) → (xs : List A) (k : ℕ) → k < length xs → P xs k
by_cut P f [] k h = absurd (omega arith)
by_cut P f (x ∷ xs) zero h = f [] x xs
by_cut P f (x ∷ xs) (suc k) h = by_cut (λ ys j. P (x ∷ ys) (suc j)) (λ us y vs. f (x ∷ us) y vs) xs k (omega arith)

module _ {A B : Type 0} {R : A → B → Type 0} where
  pub forall_length : {xs : List A} {ys : List B} → Forall₂ R xs ys → length ys ≡ length xs
  forall_length nil = refl
  forall_length (cons r e) = ap suc (forall_length e)

  pub forall_get : {xs : List A} {ys : List B} → Forall₂ R xs ys → (i : ℕ) → i < length xs → (a : A) (b : B) → R (get_or xs i a) (get_or ys i b)
  forall_get nil i h a b = absurd (omega arith)
  forall_get (cons r e) zero h a b = r
  forall_get (cons r e) (suc i) h a b = forall_get e i (omega arith) a b

  pub by_forall : (P : List A → List B → ℕ → Type 0)
      → ((us : List A) (a : A) (vs : List A) (ps : List B) (b : B) (qs : List B) → Forall₂ R us ps → R a b → Forall₂ R vs qs → P (us ++ a ∷ vs) (ps ++ b ∷ qs) (length us))
      → {xs : List A} {ys : List B} → Forall₂ R xs ys → (i : ℕ) → i < length xs → P xs ys i
  by_forall P f nil i h = absurd (omega arith)
  by_forall P f (cons {a = a} {b = b} {xs = xs} {ys = ys} r e) zero h = f [] a xs [] b ys nil r e
  by_forall P f (cons {a = a} {b = b} {xs = xs} {ys = ys} r e) (suc i) h =
      by_forall (λ us ps j. P (a ∷ us) (b ∷ ps) (suc j)) (λ us x vs ps y qs k q l. f (a ∷ us) x vs (b ∷ ps) y qs (cons r k) q l) e i (omega arith)
