-- A Timestamp's microseconds counted from the year 1, and read from the 8 bytes of its stored form.
use Rattle.std.specs.Prelude.{Option, None, Some}
use Rattle.std.specs.Option.{SomeIff}
use Prim.Native.Nat.{ℕ, suc, ◌+◌, ◌-◌, ◌^◌, ◌≤◌, ◌<◌}
use mathlib.Core.Path.{◌≡◌, refl, sym, ap, ◌∙◌}
use mathlib.Core.Bool.{Bool, true, false, cond, false≢true}
use native.Mathlib.Omega.{arith}
use lib.Dec.{ltb}
use lib.IntN.{ℤ, pos, negsuc}
use lib.Signed.{lt_z}
use mir.Syntax.{w64}
use mir.Val.{to_z}
use mir.ValLaws.{to_z_pos}
use borrow.Author.Tests.{ltb-true, ltb-false, leb-true, lt-ltb, le-ltb, le-leb, lt-leb}
use Rattle.laws.proofs.Truths.{same_ltb}
use Rattle.temporal.specs.Ranges.{is_timestamp}
use Rattle.calendar.specs.Moment.{since_year_one}
use Rattle.calendar.specs.InnerMoment.{moment_of}

-- the earliest is `negsuc 62135596799999999`
least : (n : ℕ) (t : Bool) → ltb 62135596799999999 n ≡ t → is_timestamp (negsuc n) ≡ true → n ≤ 62135596799999999
least n true e h = let z : false ≡ true = rw e at h in absurd (false≢true z)
least n false e h = ltb-false 62135596799999999 n e

most : (n : ℕ) → is_timestamp (pos n) ≡ true → n ≤ 253402300799999999
most n h = leb-true n 253402300799999999 h

pub since_lt : (z : ℤ) → is_timestamp z ≡ true → since_year_one z < 315537897600000000
since_lt (pos n) h = omega (arith, most n h)
since_lt (negsuc n) h = omega arith

-- it keeps the order
pub since_order : (y z : ℤ) → is_timestamp y ≡ true → is_timestamp z ≡ true → lt_z y z ≡ ltb (since_year_one y) (since_year_one z)
since_order (pos m) (pos n) h k = same_ltb m n (m + 62135596800000000) (n + 62135596800000000) (λ h. omega arith) (λ h. omega arith)
since_order (pos m) (negsuc n) h k = sym (le-ltb (m + 62135596800000000) (62135596799999999 - n) (omega arith))
since_order (negsuc m) (pos n) h k = sym (lt-ltb (62135596799999999 - m) (n + 62135596800000000) (omega arith))
since_order (negsuc m) (negsuc n) h k =
    let a = least m _ refl h in
    let b = least n _ refl k in
    same_ltb n m (62135596799999999 - m) (62135596799999999 - n) (λ h. omega arith) (λ h. omega arith)

pub since_inj : (y z : ℤ) → is_timestamp y ≡ true → is_timestamp z ≡ true → since_year_one y ≡ since_year_one z → y ≡ z
since_inj (pos m) (pos n) h k e = ap pos (omega arith)
since_inj (pos m) (negsuc n) h k e = absurd (omega arith)
since_inj (negsuc m) (pos n) h k e = absurd (omega arith)
since_inj (negsuc m) (negsuc n) h k e =
    let a = least m _ refl h in
    let b = least n _ refl k in
    ap negsuc (omega arith)

-- a moment is within the years 1 to 9999
in_range : (z : ℤ) (m : ℕ) (t : Bool) → is_timestamp z ≡ t → cond t (Some (since_year_one z)) None ≡ Some m → m < 315537897600000000
in_range z m true h e = let s : since_year_one z ≡ m = cc in omega (arith, since_lt z h)
in_range z m false h e = let s : ◌≡◌ {A = ℕ} 0 1 = cc in absurd (omega arith)

pub moment_lt : (z : ℤ) (m : ℕ) → moment_of z ≡ Some m → m < 315537897600000000
moment_lt z m e = in_range z m (is_timestamp z) refl e

-- ---- from its bits

high : (s : ℕ) → 2 ^ 63 ≤ s → to_z w64 s ≡ negsuc (2 ^ 64 - suc s)
high s h = rw (le-ltb s (2 ^ 63) h)

pub after_1970 : (s : ℕ) → s ≤ 253402300799999999 → Some (s + 62135596800000000) ≡ moment_of (to_z w64 s)
after_1970 s h = rw (to_z_pos w64 s (omega arith), le-leb s 253402300799999999 h)

out_of_range : (s : ℕ) → 253402300799999999 < s → s < 18384608476909551616 → (t : Bool) → ltb s (2 ^ 63) ≡ t → None ≡ moment_of (to_z w64 s)
out_of_range s h l true e =
    rw (to_z_pos w64 s (ltb-true s (2 ^ 63) e), lt-leb s 253402300799999999 h)
out_of_range s h l false e =
    let k = ltb-false s (2 ^ 63) e in
    let b : 62135596799999999 < 2 ^ 64 - suc s = omega arith in
    rw (high s k, lt-ltb 62135596799999999 (2 ^ 64 - suc s) b)

before_1970 : (s : ℕ) → 18384608476909551616 ≤ s → s < 2 ^ 64 → Some (s - 18384608476909551616) ≡ moment_of (to_z w64 s)
before_1970 s h l =
    let k : 2 ^ 63 ≤ s = omega arith in
    let b : 2 ^ 64 - suc s ≤ 62135596799999999 = omega arith in
    rw (high s k, le-ltb 62135596799999999 (2 ^ 64 - suc s) b) (ap Some (omega arith))

-- as `checked_sub` answers
pub later_or_none : (s : ℕ) (r : Option ℕ) → 253402300799999999 < s → s < 2 ^ 64 → SomeIff r (18384608476909551616 ≤ s) (s - 18384608476909551616) → r ≡ moment_of (to_z w64 s)
later_or_none s None h l n = out_of_range s h (omega (arith, n)) _ refl
later_or_none s (Some m) h l (n, e) = ap Some e ∙ before_1970 s n l
