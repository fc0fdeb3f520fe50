-- What fits: by the bytes where they are at most n, else by the code points.
use Rattle.std.specs.Prelude.{None, Option, Some}
use Prim.Native.Nat.{ℕ, ◌≤◌, ◌<◌}
use mathlib.Core.Path.{◌≡◌, refl}
use mathlib.Core.Bool.{Bool, true, false, cond}
use mathlib.Core.List.{List}
use native.Mathlib.Omega.{arith}
use borrow.Author.Tests.{leb-true, le-leb, lt-leb}
use lib.Dec.{leb}
use lib.ListN.{length}
use Rattle.laws.proofs.Truths.{both}
use Rattle.text.specs.Rfc3629.{code_points, is_text}
use Rattle.text.specs.Check.{check_of, points}
use Rattle.text.proofs.Points.{valid_check, invalid_check, points-some, points-le}
use Rattle.text_limit.specs.Limit.{size_by, fits_text}
use Rattle.text_limit.specs.InnerCheck.{check_within}

-- no text has more code points than bytes
pub size-le : (p : Bool) (x : List ℕ) → is_text x ≡ true → size_by p x ≤ length x
size-le true x e = points-le x (points-some x e)
size-le false x e = omega arith

-- a text that fits
module _ (p : Bool) (n : ℕ) (x : List ℕ) (e : fits_text p n x ≡ true) where
  pub fits-valid : is_text x ≡ true
  fits-valid = (both (is_text x) (leb (size_by p x) n) e).0

  pub fits-size : size_by p x ≤ n
  fits-size = leb-true (size_by p x) n (both (is_text x) (leb (size_by p x) n) e).1

few : (t : Bool) (k n : ℕ) → (t ≡ true → k ≤ n) → cond t (leb k n) false ≡ t
few true k n h = le-leb k n (h refl)
few false k n h = refl

many : (t : Bool) (k n : ℕ) → n < k → cond t (leb k n) false ≡ false
many true k n h = lt-leb k n h
many false k n h = refl

-- at most n bytes: fits if it is text
pub few_bytes : (p : Bool) (n : ℕ) (x : List ℕ) → length x ≤ n → fits_text p n x ≡ is_text x
few_bytes p n x h = few (is_text x) (size_by p x) n (λ e. let k = size-le p x e in omega arith)

pub many-bytes : (n : ℕ) (x : List ℕ) → n < length x → fits_text false n x ≡ false
many-bytes n x h = many (is_text x) (length x) n h

-- ---- the check's answer

by_text : (t : Bool) (k : ℕ) (c : Option ℕ) → (t ≡ true → c ≡ Some k) → (t ≡ false → c ≡ None) → c ≡ cond t (Some k) None
by_text true k c f g = f refl
by_text false k c f g = g refl

pub checked : (x : List ℕ) → check_of (code_points x) ≡ cond (is_text x) (Some (points x)) None
checked x = by_text (is_text x) (points x) (check_of (code_points x)) (valid_check x) (invalid_check x)

pub few-checked : (p : Bool) (n : ℕ) (x : List ℕ) → length x ≤ n → check_of (code_points x) ≡ check_within p n x
few-checked p n x h = rw (few_bytes p n x h) (checked x)

-- what it says of a test
pub told_false : (t : Bool) (k : ℕ) → cond t (Some k) None ≡ None → false ≡ t
told_false true k e = let z : ◌≡◌ {A = ℕ} 0 1 = cc in absurd (omega arith)
told_false false k e = refl

module _ (k : ℕ) {m : ℕ} where
  pub told_true : (t : Bool) → cond t (Some k) None ≡ Some m → true ≡ t
  told_true true e = refl
  told_true false e = let z : ◌≡◌ {A = ℕ} 0 1 = cc in absurd (omega arith)

  pub told-points : (t : Bool) → cond t (Some k) None ≡ Some m → m ≡ k
  told-points true e = cc
  told-points false e = let z : ◌≡◌ {A = ℕ} 0 1 = cc in absurd (omega arith)
