-- A text has as many code points as bytes that are no tails; the check's answer; texts end to end.
use Rattle.std.specs.Prelude.{None, Some}
use Prim.Native.Nat.{ℕ, suc, ◌+◌, ◌-◌, ◌≤◌}
use mathlib.Core.Path.{◌≡◌, refl, sym, ap}
use mathlib.Core.Bool.{Bool, true, false, cond, ◌&&◌, ◌||◌, false≢true}
use mathlib.Core.List.{List, [], ◌∷◌, ◌++◌}
use mathlib.Core.Option.{Option, none, some}
use mir.Val.{bool_byte}
use native.Mathlib.Nat.{zero-add}
use native.Mathlib.Omega.{arith}
use lib.Dec.{leb}
use lib.ListN.{length, replicate}
use borrow.Author.Tests.{leb-true, le-leb, lt-leb}
use Rattle.text.specs.Rfc3629.{Range, Form, within, ◌to◌, utf8_tail, utf8_char, more, or_next, begin, octets, code_points, is_given, is_text}
use Rattle.text.specs.Check.{check_of, points_of, points}
use Rattle.text.specs.InnerTails.{tails_of}
use Rattle.laws.proofs.Truths.{and_left, and_right, cases}
use Rattle.text.proofs.Forms.{inside}
use Rattle.text.proofs.Counts.{tails_none, tails_first}
use Rattle.text.proofs.Append.{counted, points-append, blank_points}

-- ---- code points

-- x is the number of the bytes, l of them, that are not among k tails, where it is a number
abbrev Is : Option ℕ → ℕ → ℕ → Type 0
Is none k l = Unit {0}
Is (some m) k l = m + k ≡ l

is-more : (k l : ℕ) (x : Option ℕ) → Is x k l → Is (more x) k (suc l)
is-more k l none h = tt
is-more k l (some m) h = omega arith

is_tail : (k l : ℕ) (x : Option ℕ) → Is x k l → Is x (1 + k) (suc l)
is_tail k l none h = tt
is_tail k l (some m) h = omega arith

is_or : (k l : ℕ) (x y : Option ℕ) → Is x k l → Is y k l → Is (or_next x y) k l
is_or k l none y h g = g
is_or k l (some m) y h g = h

is_if : (k l : ℕ) (t : Bool) (x : Option ℕ) → (t ≡ true → Is x k l) → Is (cond t x none) k l
is_if k l true x h = h refl
is_if k l false x h = tt

-- the ranges hold tails alone
abbrev all_tails : List Range → Bool
all_tails [] = true
all_tails (lo to hi ∷ rest) = leb 0x80 lo && leb hi 0xBF && all_tails rest

-- the forms begin with no tail and go on with tails
abbrev headed : List Form → Bool
headed [] = true
headed ([] ∷ forms) = headed forms
headed ((lo to hi ∷ rest) ∷ forms) = (leb hi 0x7F || leb 0xC0 lo) && (all_tails rest && headed forms)

no_tail : (lo hi b : ℕ) → (leb hi 0x7F || leb 0xC0 lo) ≡ true → within (lo to hi) b ≡ true → within utf8_tail b ≡ false
no_tail lo hi b h e =
    let k = inside lo hi b e in
    cases 0x7F b
    (λ l.
    let m = leb-true 0xC0 lo (rw (lt-leb hi 0x7F (omega arith)) at h) in
    rw (le-leb 0x80 b (omega arith), lt-leb b 0xBF (omega arith)))
    (λ l. rw (lt-leb 0x80 b (omega arith)))

module _ (b k l : ℕ) (go : List Range → Option ℕ) (f : (rest : List Range) → all_tails rest ≡ true → Is (go rest) k l) where
  begin-is : (forms : List Form) → headed forms ≡ true → Is (begin forms b go) (bool_byte (within utf8_tail b) + k) (suc l)
  begin-is [] h = tt
  begin-is ([] ∷ forms) h = begin-is forms h
  begin-is ((lo to hi ∷ rest) ∷ forms) h =
      let j = bool_byte (within utf8_tail b) + k in
      let g = and_right (leb hi 0x7F || leb 0xC0 lo) (all_tails rest && headed forms) h in
      is_or j (suc l) (cond (within (lo to hi) b) (more (go rest)) none) (begin forms b go)
      (is_if j (suc l) (within (lo to hi) b) (more (go rest))
      (λ e.
      rw (no_tail lo hi b (and_left _ (all_tails rest && headed forms) h) e, zero-add)
      (is-more k l (go rest) (f rest (and_left (all_tails rest) (headed forms) g)))))
      (begin-is forms (and_right (all_tails rest) (headed forms) g))

octets-is : (s : List ℕ) (ranges : List Range) → all_tails ranges ≡ true
    → Is (octets s ranges) (tails_of s 0 (length s)) (length s)
unfolding octets
octets-is [] [] h = rw (tails_none [] 0)
octets-is [] (r ∷ rest) h = tt
octets-is (b ∷ s) [] h =
    rw (tails_first b s) (begin-is b (tails_of s 0 (length s)) (length s) (octets s) (octets-is s) utf8_char refl)
octets-is (b ∷ s) (lo to hi ∷ rest) h =
    let m = and_left (leb 0x80 lo && leb hi 0xBF) (all_tails rest) h in
    let x = leb-true 0x80 lo (and_left (leb 0x80 lo) (leb hi 0xBF) m) in
    let y = leb-true hi 0xBF (and_right (leb 0x80 lo) (leb hi 0xBF) m) in
    is_if (tails_of (b ∷ s) 0 (suc (length s))) (suc (length s)) (within (lo to hi) b) (octets s rest)
    (λ e.
    let k = inside lo hi b e in
    rw (tails_first b s, le-leb 0x80 b (omega arith), le-leb b 0xBF (omega arith))
    (is_tail (tails_of s 0 (length s)) (length s) (octets s rest) (octets-is s rest (and_right (leb 0x80 lo && leb hi 0xBF) (all_tails rest) h))))

pub points_tails : (s : List ℕ) {n : ℕ} → code_points s ≡ some n → n + tails_of s 0 (length s) ≡ length s
points_tails s e = rw e at (octets-is s [] refl)

pub points-le : (s : List ℕ) {n : ℕ} → code_points s ≡ some n → n ≤ length s
points-le s e = let h = points_tails s e in omega arith

-- ---- the check's answer

given_check : (x : Option ℕ) → is_given x ≡ true → check_of x ≡ Some (points_of x)
given_check none e = absurd (false≢true e)
given_check (some n) e = refl

none_check : (x : Option ℕ) → is_given x ≡ false → check_of x ≡ None
none_check none e = refl
none_check (some n) e = absurd (false≢true (sym e))

pub valid_check : (s : List ℕ) → is_text s ≡ true → check_of (code_points s) ≡ Some (points s)
valid_check s e = given_check (code_points s) e

pub invalid_check : (s : List ℕ) → is_text s ≡ false → check_of (code_points s) ≡ None
invalid_check s e = none_check (code_points s) e

-- what an answer says
check_some : (x : Option ℕ) {n : ℕ} → check_of x ≡ Some n → x ≡ some n
check_some none e = let z : ◌≡◌ {A = ℕ} 0 1 = cc in absurd (omega arith)
check_some (some m) e = cc

check_none : (x : Option ℕ) → check_of x ≡ None → x ≡ none
check_none none e = refl
check_none (some m) e = let z : ◌≡◌ {A = ℕ} 0 1 = cc in absurd (omega arith)

pub answered-valid : (s : List ℕ) {n : ℕ} → check_of (code_points s) ≡ Some n → code_points s ≡ some n
answered-valid s e = check_some (code_points s) e

pub answered_invalid : (s : List ℕ) → check_of (code_points s) ≡ None → is_text s ≡ false
answered_invalid s e = ap is_given (check_none (code_points s) e)

-- the number of code points of a text
module _ (s : List ℕ) (e : is_text s ≡ true) where
  pub points-some : code_points s ≡ some (points s)
  points-some = let k = counted (code_points s) e in rw k.1

  pub points-counted : length s - tails_of s 0 (length s) ≡ points s
  points-counted = let h = points_tails s points-some in omega arith

-- ---- texts end to end

pub points_join : (x y : List ℕ) → is_text x ≡ true → is_text y ≡ true → points (x ++ y) ≡ points x + points y
points_join x y e f = ap points_of (points-append x y (points x) (points y) (points-some x e) (points-some y f))

pub points_blanks : (n : ℕ) → points (replicate n 0x20) ≡ n
points_blanks n = ap points_of (blank_points n)

-- a text with k blanks after it
pub points_char : (x : List ℕ) (k : ℕ) → is_text x ≡ true → points (x ++ replicate k 0x20) ≡ points x + k
points_char x k e = ap points_of (points-append x (replicate k 0x20) (points x) k (points-some x e) (blank_points k))
