-- Truth values, and tests of two numbers.
use Prim.Native.Nat.{ℕ, ◌≤◌, ◌<◌}
use mathlib.Core.Path.{◌≡◌, refl, sym, ◌∙◌}
use mathlib.Core.Bool.{Bool, true, false, cond, ◌&&◌, ◌||◌, false≢true}
use native.Mathlib.Decide.{dec_lt}
use native.Mathlib.Omega.{arith}
use lib.Dec.{ltb, leb}
use borrow.Author.Tests.{lt-ltb, le-ltb, le-leb, lt-leb}

pub and_left : (x y : Bool) → (x && y) ≡ true → x ≡ true
and_left true y e = refl
and_left false y e = e

pub and_right : (x y : Bool) → (x && y) ≡ true → y ≡ true
and_right true y e = e
and_right false y e = absurd (false≢true e)

pub and-true : (x : Bool) → (x && true) ≡ x
and-true true = refl
and-true false = refl

pub both : (t u : Bool) → cond t u false ≡ true → (t ≡ true) × (u ≡ true)
both true u e = (refl, e)
both false u e = absurd (false≢true e)

pub or_none : (x y : Bool) → (x || y) ≡ false → (x ≡ false) × (y ≡ false)
or_none true y e = absurd (false≢true (sym e))
or_none false y e = (refl, e)

pub or_map : (x y : Bool) {p q : Bool} → (x ≡ true → p ≡ true) → (y ≡ true → q ≡ true) → (x || y) ≡ true → (p || q) ≡ true
or_map true y f g e = rw (f refl)
or_map false y {p = true} f g e = refl
or_map false y {p = false} f g e = g e

-- two that hold together
pub same : {x y : Bool} → (x ≡ true → y ≡ true) → (y ≡ true → x ≡ true) → x ≡ y
same {x = true} f g = sym (f refl)
same {x = false} {y = true} f g = g refl
same {x = false} {y = false} f g = refl

-- two numbers in order, or not
by_dec : {P : Type 0} (a b : ℕ) → Dec (a < b) → (a < b → P) → (b ≤ a → P) → P
by_dec a b (yes p) f g = f p
by_dec a b (no n) f g = g (omega (arith, n))

pub cases : {P : Type 0} (a b : ℕ) → (a < b → P) → (b ≤ a → P) → P
cases a b f g = by_dec a b (dec_lt a b) f g

-- two numbers that are the same, or not
pub same_or : {P : Type 0} (a b : ℕ) → (a ≡ b → P) → ((a ≡ b → ⊥) → P) → P
same_or a b f g = cases a b (λ h. g (λ e. omega arith)) (λ h. cases b a (λ l. g (λ e. omega arith)) (λ l. f (omega arith)))

pub same_ltb : (a b c d : ℕ) → (a < b → c < d) → (b ≤ a → d ≤ c) → ltb a b ≡ ltb c d
same_ltb a b c d f g = cases a b (λ h. lt-ltb a b h ∙ sym (lt-ltb c d (f h))) (λ h. le-ltb a b h ∙ sym (le-ltb c d (g h)))

pub same_leb : (a b c d : ℕ) → (a ≤ b → c ≤ d) → (b < a → d < c) → leb a b ≡ leb c d
same_leb a b c d f g = cases b a (λ h. lt-leb a b h ∙ sym (lt-leb c d (g h))) (λ h. le-leb a b h ∙ sym (le-leb c d (f h)))

-- what holds of either outcome of a test
pub by_cond : {A : Type 0} (P : A → Type 0) (t : Bool) (x y : A) → (t ≡ true → P x) → (t ≡ false → P y) → P (cond t x y)
by_cond P true x y f g = f refl
by_cond P false x y f g = g refl
