-- What holds of a result, and what of a refusal in its place, carried through the definitions of a call.
use Rattle.std.specs.Prelude.{Err, Ok}
use mathlib.Core.Path.{◌≡◌, subst}
use mathlib.Core.List.{List, ◌∷◌}
use Rattle.error.specs.declared.Refusal.{Refusal}
use Rattle.error.specs.Result.{Result, on_result, before}

pub data Gives {A : Type 0} (P : A → Type 0) (Q : Refusal → Type 0) : Result A → Type 0 where
  good : {x : A} → P x → Gives P Q (Ok x)
  bad : {e : Refusal} → Q e → Gives P Q (Err e)

module _ {A : Type 0} {P : A → Type 0} {Q : Refusal → Type 0} where
  the_good : {x : A} → Gives P Q (Ok x) → P x
  the_good (good p) = p

  the_bad : {e : Refusal} → Gives P Q (Err e) → Q e
  the_bad (bad q) = q

  pub of_good : {res : Result A} → Gives P Q res → {x : A} → res ≡ Ok x → P x
  of_good g e = the_good (subst (Gives P Q) e g)

  pub of_bad : {res : Result A} → Gives P Q res → {e : Refusal} → res ≡ Err e → Q e
  of_bad g e = the_bad (subst (Gives P Q) e g)

  -- what holds of either way on
  pub on_either : {B : Type 0} (R : B → Type 0) {res : Result A} (else : Refusal → B) (k : A → B) → Gives P Q res
      → ((e : Refusal) → Q e → R (else e)) → ((x : A) → P x → R (k x)) → R (on_result res else k)
  on_either R else k (good {x = x} p) f g = g x p
  on_either R else k (bad {e = e} q) f g = f e q

  pub on_result_lem : {B : Type 0} {R : B → Type 0} {res : Result A} (k : A → Result B) → Gives P Q res
      → ((x : A) → P x → Gives R Q (k x)) → Gives R Q (on_result res Err k)
  on_result_lem {R = R} k g f = on_either (Gives R Q) Err k g (λ e q. bad q) f

  pub good-map : {R : A → Type 0} {res : Result A} → Gives P Q res → ((x : A) → P x → R x) → Gives R Q res
  good-map (good {x = x} p) f = good (f x p)
  good-map (bad q) f = bad q

module _ {A : Type 0} {P : List A → Type 0} {Q : Refusal → Type 0} where
  pub before-good : {R : List A → Type 0} (x : A) {res : Result (List A)} → Gives P Q res → ((xs : List A) → P xs → R (x ∷ xs))
      → Gives R Q (before x res)
  before-good x (good {x = xs} p) f = good (f xs p)
  before-good x (bad q) f = bad q
