-- To have the same value is an equivalence on the patterns of a format.
use Prim.Native.Nat.{ℕ, ◌*◌, ◌<◌}
use mathlib.Core.Path.{◌≡◌, refl, sym}
use mathlib.Core.Bool.{true, false≢true}
use lib.Ieee.{Format, binary32, binary64, top}
use Rattle.laws.proofs.Truths.{same}
use Rattle.float.specs.Same.{same_value}
use Rattle.float.specs.Patterns.{without_sign, nan_pattern, Alike, nans, zeros, equal}
use Rattle.float.proofs.ByBits.{alike_value, value_alike}

pub same_self : (f : Format) (a : ℕ) → same_value f a a ≡ true
same_self f a = alike_value f a a (equal refl)

alike_sym : {f : Format} {a b : ℕ} → Alike f a b → Alike f b a
alike_sym (nans p q) = nans q p
alike_sym (zeros p q) = zeros q p
alike_sym (equal e) = equal (sym e)

no_nan_zero : (f : Format) (a : ℕ) → nan_pattern f a ≡ true → without_sign f a ≡ 0 → ⊥
no_nan_zero binary32 a p q = false≢true (rw q at p)
no_nan_zero binary64 a p q = false≢true (rw q at p)

alike_trans : {f : Format} {a b c : ℕ} → Alike f a b → Alike f b c → Alike f a c
alike_trans (nans p q) (nans r s) = nans p s
alike_trans {f} {b = b} (nans p q) (zeros r s) = absurd (no_nan_zero f b q r)
alike_trans (nans p q) (equal e) = rw (← e) (nans p q)
alike_trans {f} {b = b} (zeros p q) (nans r s) = absurd (no_nan_zero f b r q)
alike_trans (zeros p q) (zeros r s) = zeros p s
alike_trans (zeros p q) (equal e) = rw (← e) (zeros p q)
alike_trans (equal e) k = rw e k

module _ (f : Format) (a b : ℕ) (ha : a < 2 * top f) (hb : b < 2 * top f) where
  pub same_sym : same_value f a b ≡ same_value f b a
  same_sym = same (λ h. alike_value f b a (alike_sym (value_alike f a b ha hb h))) (λ h. alike_value f a b (alike_sym (value_alike f b a hb ha h)))

  pub same_trans : (c : ℕ) → c < 2 * top f → same_value f a b ≡ true → same_value f b c ≡ true → same_value f a c ≡ true
  same_trans c hc h k = alike_value f a c (alike_trans (value_alike f a b ha hb h) (value_alike f b c hb hc k))
