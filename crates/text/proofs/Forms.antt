-- The forms of a character exclude each other by their first bytes.
use Prim.Native.Nat.{ℕ, zero, suc, ◌<◌, ◌≤◌}
use mathlib.Core.Path.{◌≡◌, refl, ap, ◌∙◌}
use mathlib.Core.Bool.{Bool, true, false, cond, ◌&&◌, ◌||◌, false≢true, or-false}
use mathlib.Core.List.{List, [], ◌∷◌}
use mathlib.Core.Option.{Option, none, some}
use native.Mathlib.Omega.{arith}
use borrow.Author.Tests.{leb-true, lt-leb}
use lib.Dec.{leb}
use Rattle.text.specs.Rfc3629.{Form, within, ◌to◌, utf8_char, more, or_next, begin}
use Rattle.text.specs.Characters.{is_of, is_one, is_nth}
use Rattle.laws.proofs.Truths.{and_left, and_right}

pub record Between (lo hi b : ℕ) : Type 0 where
  pub low : lo ≤ b
  pub high : b ≤ hi

pub inside : (lo hi b : ℕ) → within (lo to hi) b ≡ true → Between lo hi b
inside lo hi b e =
    record {
      low = leb-true lo b (and_left (leb lo b) (leb b hi) e);
      high = leb-true b hi (and_right (leb lo b) (leb b hi) e);
    }

-- the first bytes of the forms are m or more, and each form's are above those of the forms before it
abbrev pub rising : ℕ → List Form → Bool
rising m [] = true
rising m ([] ∷ forms) = false
rising m ((lo to hi ∷ rest) ∷ forms) = within (m to hi) lo && rising (suc hi) forms

-- ---- a character has one of them at most

module _ (b : ℕ) (c : List ℕ) where
  at_least : (forms : List Form) (m i : ℕ) → rising m forms ≡ true → is_nth forms i (b ∷ c) ≡ true → m ≤ b
  at_least [] m i r e = absurd (false≢true e)
  at_least ([] ∷ forms) m i r e = absurd (false≢true r)
  at_least ((lo to hi ∷ rest) ∷ forms) m zero r e =
      let q = inside m hi lo (and_left _ _ r) in
      let l = inside lo hi b (and_left _ _ e) in
      omega arith
  at_least ((lo to hi ∷ rest) ∷ forms) m (suc i) r e =
      let q = inside m hi lo (and_left _ _ r) in
      let l = at_least forms (suc hi) i (and_right (within (m to hi) lo) _ r) e in
      omega arith

  pub apart : (forms : List Form) (m i j : ℕ) → rising m forms ≡ true → is_nth forms i (b ∷ c) ≡ true
      → is_nth forms j (b ∷ c) ≡ true → i ≡ j
  apart [] m i j r e f = absurd (false≢true e)
  apart ([] ∷ forms) m i j r e f = absurd (false≢true r)
  apart ((lo to hi ∷ rest) ∷ forms) m zero zero r e f = refl
  apart ((lo to hi ∷ rest) ∷ forms) m zero (suc j) r e f =
      let l = inside lo hi b (and_left _ _ e) in
      let g = at_least forms (suc hi) j (and_right (within (m to hi) lo) _ r) f in
      absurd (omega arith)
  apart ((lo to hi ∷ rest) ∷ forms) m (suc i) zero r e f =
      let l = inside lo hi b (and_left _ _ f) in
      let g = at_least forms (suc hi) i (and_right (within (m to hi) lo) _ r) e in
      absurd (omega arith)
  apart ((lo to hi ∷ rest) ∷ forms) m (suc i) (suc j) r e f =
      ap suc (apart forms (suc hi) i j (and_right (within (m to hi) lo) _ r) e f)

-- ---- the form that a byte begins

-- its other ranges
abbrev pub rest_of : List Form → ℕ → Option Form
rest_of [] b = none
rest_of ([] ∷ forms) b = rest_of forms b
rest_of ((r ∷ rest) ∷ forms) b = cond (within r b) (some rest) (rest_of forms b)

-- a number that `go` gives for the other ranges, and one more
abbrev pub begun : Option Form → (Form → Option ℕ) → Option ℕ
begun none go = none
begun (some rest) go = more (go rest)

-- c is in the other ranges
abbrev pub ends_in : Option Form → List ℕ → Bool
ends_in none c = false
ends_in (some rest) c = is_of rest c

or_else_none : (x : Option ℕ) → or_next x none ≡ x
or_else_none none = refl
or_else_none (some n) = refl

module _ (b : ℕ) where
  -- no form that rises above b begins with it
  rest_none : (forms : List Form) (m : ℕ) → rising m forms ≡ true → b < m → rest_of forms b ≡ none
  rest_none [] m r h = refl
  rest_none ([] ∷ forms) m r h = absurd (false≢true r)
  rest_none ((lo to hi ∷ rest) ∷ forms) m r h =
      let q = inside m hi lo (and_left _ _ r) in
      rw (lt-leb lo b (omega arith)) (rest_none forms (suc hi) (and_right (within (m to hi) lo) _ r) (omega arith))

  module _ (go : Form → Option ℕ) (c : List ℕ) where
    -- so the form that it begins decides alone
    by_form : (forms : List Form) (m : ℕ) → rising m forms ≡ true
        → (begin forms b go ≡ begun (rest_of forms b) go) × (is_one forms (b ∷ c) ≡ ends_in (rest_of forms b) c)
    by_form [] m r = (refl, refl)
    by_form ([] ∷ forms) m r = absurd (false≢true r)
    by_form ((lo to hi ∷ rest) ∷ forms) m r =
        let up : rising (suc hi) forms ≡ true = and_right (within (m to hi) lo) _ r in
        by_test (within (lo to hi) b)
        (λ e. rest_none forms (suc hi) up (let l = inside lo hi b e in omega arith))
        (by_form forms (suc hi) up)
      where
        by_test : (t : Bool) → (t ≡ true → rest_of forms b ≡ none)
            → (begin forms b go ≡ begun (rest_of forms b) go) × (is_one forms (b ∷ c) ≡ ends_in (rest_of forms b) c)
            → (or_next (cond t (more (go rest)) none) (begin forms b go)
            ≡ begun (cond t (some rest) (rest_of forms b)) go)
            × ((t && is_of rest c || is_one forms (b ∷ c)) ≡ ends_in (cond t (some rest) (rest_of forms b)) c)
        by_test true f k =
            (rw (k.0, f refl) (or_else_none (more (go rest))), rw (k.1, f refl) (or-false (is_of rest c)))
        by_test false f k = k

  pub begin-form : (go : Form → Option ℕ) → begin utf8_char b go ≡ begun (rest_of utf8_char b) go
  begin-form go = (by_form go [] utf8_char 0 refl).0

  pub one_form : (forms : List Form) (m : ℕ) → rising m forms ≡ true → (c : List ℕ)
      → is_one forms (b ∷ c) ≡ ends_in (rest_of forms b) c
  one_form forms m r c = (by_form (λ rest. none) c forms m r).1

  pub too_low : (forms : List Form) (m : ℕ) → rising m forms ≡ true → b < m → (c : List ℕ)
      → is_one forms (b ∷ c) ≡ false
  too_low forms m r h c = one_form forms m r c ∙ ap (λ (form : Option Form). ends_in form c) (rest_none forms m r h)
