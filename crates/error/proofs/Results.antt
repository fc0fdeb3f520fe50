-- What an equation of results says: of pairs, of a refusal, and of what `?` hands on.
use mathlib.Core.Path.{◌≡◌, refl, sym, ap, subst}
use Rattle.std.specs.Prelude.{Ok, Err, MatchResult, IsErr, IsErrAnd}
use Rattle.error.specs.declared.Refusal.{Refusal}
use Rattle.error.specs.Result.{Result}

pub ok_first : {A B : Type 0} {x a : A} {y b : B} → ◌≡◌ {A = Result (A × B)} (Ok (x, y)) (Ok (a, b)) → x ≡ a
ok_first {A} {B} {x} e = subst (λ (r : Result (A × B)). MatchResult r (λ p. x ≡ p.0) (λ _. Unit {0})) e refl

pub ok_second : {A B : Type 0} {x a : A} {y b : B} → ◌≡◌ {A = Result (A × B)} (Ok (x, y)) (Ok (a, b)) → y ≡ b
ok_second {A} {B} {x} {a} {y} e = subst (λ (r : Result (A × B)). MatchResult r (λ p. y ≡ p.1) (λ _. Unit {0})) e refl

-- a result is no refusal
pub ok-refused : {A : Type 0} {x : A} {e : Refusal} → ◌≡◌ {A = Result A} (Ok x) (Err e) → ⊥
ok-refused {A} f = subst (λ (r : Result A). MatchResult r (λ _. Unit {0}) (λ _. ⊥)) f tt

pub refused-ok : {A : Type 0} {x : A} {e : Refusal} → ◌≡◌ {A = Result A} (Err e) (Ok x) → ⊥
refused-ok f = ok-refused (sym f)

-- what `?` hands on is the refusal that it met
pub handed_on : {A : Type 0} {e : Refusal} (r : Result A) → IsErr r × IsErrAnd r (λ x. x ≡ e) → r ≡ Err e
handed_on (Ok x) h = absurd h.1
handed_on (Err x) h = ap Err h.1
