-- `precedes` ranks occupations: of two at most one is before the other, and what is before one is before all that are
-- not before that one. So do its parts, whatever they compare.
use Prim.Native.Nat.{ℕ}
use mathlib.Core.Path.{◌≡◌, refl, sym, ◌∙◌}
use mathlib.Core.Bool.{Bool, true, false, cond, false≢true}
use mathlib.Core.List.{List, [], ◌∷◌}
use mathlib.Core.Option.{Option, none, some}
use native.Mathlib.Omega.{arith}
use lib.Dec.{eqb, ltb}
use borrow.Author.Tests.{lt-ltb, le-ltb, eq-eqb, ne_eqb, ltb-true, ltb-false}
use Rattle.laws.proofs.Truths.{cases}
use Rattle.occupation.specs.Occupation.{Occupation}
use Rattle.occupation.specs.Order.{bytes_before, null_first, precedes}

pub record Ranks {A : Type 0} (lt : A → A → Bool) : Type 0 where
  pub once : (a b : A) → lt a b ≡ true → lt b a ≡ false
  pub behind : (a b c : A) → lt a b ≡ true → lt c b ≡ false → lt a c ≡ true

numbers : Ranks ltb
numbers =
    record {
      once = λ a b h. let l = ltb-true a b h in le-ltb b a (omega arith);
      behind = λ a b c h k. let l = ltb-true a b h in let m = ltb-false c b k in lt-ltb a c (omega arith);
    }

-- ---- by one thing, and by another where the first decides nothing

abbrev either : Bool → Bool → Bool → Bool
either p q t = cond p true (cond q false t)

either_once : (p q : Bool) {t u : Bool} → (p ≡ true → q ≡ false) → (t ≡ true → u ≡ false) → either p q t ≡ true
    → either q p u ≡ false
either_once true q f g e = rw (f refl)
either_once false true f g e = absurd (false≢true e)
either_once false false f g e = g e

module _ {A : Type 0} {lt : A → A → Bool} (s : Ranks lt) where
  then_once : (a b : A) {t u : Bool} → (t ≡ true → u ≡ false) → either (lt a b) (lt b a) t ≡ true
      → either (lt b a) (lt a b) u ≡ false
  then_once a b g e = either_once (lt a b) (lt b a) (s.once a b) g e

  then_behind : (a b c : A) {t u v : Bool} → (t ≡ true → u ≡ false → v ≡ true) → either (lt a b) (lt b a) t ≡ true
      → either (lt c b) (lt b c) u ≡ false → either (lt a c) (lt c a) v ≡ true
  then_behind a b c {t} {u} {v} g =
      go (lt c b) (lt a b) (lt b a) (lt a c) (lt b c) (lt c a) (s.behind a b c) (s.behind b c a) (s.behind c a b)
    where
      go : (cb ab ba ac bc ca : Bool) → (ab ≡ true → cb ≡ false → ac ≡ true) → (bc ≡ true → ac ≡ false → ba ≡ true)
          → (ca ≡ true → ba ≡ false → cb ≡ true) → either ab ba t ≡ true → either cb bc u ≡ false
          → either ac ca v ≡ true
      go true ab ba ac bc ca f h k d e = absurd (false≢true (sym e))
      go false true ba ac bc ca f h k d e = rw (f refl refl)
      go false false true ac bc ca f h k d e = absurd (false≢true d)
      go false false false true bc ca f h k d e = refl
      go false false false false true ca f h k d e = absurd (false≢true (h refl refl))
      go false false false false false true f h k d e = absurd (false≢true (k refl refl))
      go false false false false false false f h k d e = g d e

-- ---- "null first", whatever is compared

module _ {A : Type 0} {lt : A → A → Bool} (s : Ranks lt) where
  null_once : (a b : Option A) → null_first lt a b ≡ true → null_first lt b a ≡ false
  null_once none none h = refl
  null_once none (some y) h = refl
  null_once (some x) none h = absurd (false≢true h)
  null_once (some x) (some y) h = s.once x y h

  null-behind : (a b c : Option A) → null_first lt a b ≡ true → null_first lt c b ≡ false → null_first lt a c ≡ true
  null-behind none none c h k = absurd (false≢true h)
  null-behind none (some y) none h k = absurd (false≢true (sym k))
  null-behind none (some y) (some z) h k = refl
  null-behind (some x) none c h k = absurd (false≢true h)
  null-behind (some x) (some y) none h k = absurd (false≢true (sym k))
  null-behind (some x) (some y) (some z) h k = s.behind x y z h k

  nulls : Ranks (null_first lt)
  nulls = record { once = null_once; behind = null-behind }

-- ---- texts: by the first byte, and then by the others

by_byte : (x y : ℕ) (t : Bool) → cond (ltb x y) true (cond (eqb x y) t false) ≡ either (ltb x y) (ltb y x) t
by_byte x y t =
    cases x y (λ h. rw (lt-ltb x y h))
    (λ h. cases y x (λ l. rw (le-ltb x y h, lt-ltb y x l, ne_eqb x y (λ e. omega arith)))
    (λ l. rw (le-ltb x y h, le-ltb y x l, eq-eqb x y (omega arith))))

bytes_once : (a b : List ℕ) → bytes_before a b ≡ true → bytes_before b a ≡ false
bytes_once [] [] h = refl
bytes_once [] (y ∷ ys) h = refl
bytes_once (x ∷ xs) [] h = absurd (false≢true h)
bytes_once (x ∷ xs) (y ∷ ys) h =
    by_byte y x (bytes_before ys xs)
    ∙ then_once numbers x y (bytes_once xs ys) (sym (by_byte x y (bytes_before xs ys)) ∙ h)

bytes-behind : (a b c : List ℕ) → bytes_before a b ≡ true → bytes_before c b ≡ false → bytes_before a c ≡ true
bytes-behind [] [] c h k = absurd (false≢true h)
bytes-behind [] (y ∷ ys) [] h k = absurd (false≢true (sym k))
bytes-behind [] (y ∷ ys) (z ∷ zs) h k = refl
bytes-behind (x ∷ xs) [] c h k = absurd (false≢true h)
bytes-behind (x ∷ xs) (y ∷ ys) [] h k = absurd (false≢true (sym k))
bytes-behind (x ∷ xs) (y ∷ ys) (z ∷ zs) h k =
    by_byte x z (bytes_before xs zs)
    ∙ then_behind numbers x y z (bytes-behind xs ys zs) (sym (by_byte x y (bytes_before xs ys)) ∙ h)
    (sym (by_byte z y (bytes_before zs ys)) ∙ k)

-- ---- occupations

platforms : Ranks (null_first bytes_before)
platforms = nulls (record { once = bytes_once; behind = bytes-behind })

pub precedes_once : (a b : Occupation) → precedes a b ≡ true → precedes b a ≡ false
precedes_once a b h =
    then_once platforms a.platform b.platform ((nulls numbers).once a.arrival b.arrival) h

pub precedes-behind : (a b c : Occupation) → precedes a b ≡ true → precedes c b ≡ false → precedes a c ≡ true
precedes-behind a b c h k =
    then_behind platforms a.platform b.platform c.platform
    ((nulls numbers).behind a.arrival b.arrival c.arrival) h k

pub precedes_ranks : Ranks precedes
precedes_ranks = record { once = precedes_once; behind = precedes-behind }
