-- The bit-level law, for either format: two patterns have the same value exactly where both are NaNs, or both zeros, or they are equal.
use Prim.Native.Nat.{ℕ, ◌*◌, ◌/◌, ◌%◌, ◌^◌, ◌<◌}
use mathlib.Core.Path.{◌≡◌, refl}
use mathlib.Core.Bool.{Bool, true, false, ◌&&◌, ◌||◌, cond, beq, or-true, or-false, false≢true}
use native.Mathlib.Nat.{mul_right_comm, zero-mul, zero-div}
use native.Mathlib.Omega.{arith}
use lib.IntN.{ℤ, pos}
use lib.Dec.{leb, eqb}
use lib.Ieee.{Float, nan, inf, fin, Format, binary32, binary64, low, up, down, hid, top, eq, is_nan, of_bits, to_bits}
use lib.Ieee.Fits.{down_pos}
use lib.Ieee.Nearest.{div_same}
use lib.Ieee.Bits.{to_bits-of_bits}
use borrow.Author.Tests.{eqb-true, eq-eqb}
use Rattle.laws.proofs.Truths.{and_left, and_right, same}
use Rattle.float.specs.Same.{same_float, same_value}
use Rattle.float.specs.Patterns.{without_sign, zero_pattern, nan_pattern, same_bits, Alike, nans, zeros, equal}
use Rattle.float.proofs.Nan.{nan_pattern_lem}

-- ---- the three cases of `same_bits`

either : {A : Type 0} (x y : Bool) → (x || y) ≡ true → (x ≡ true → A) → (y ≡ true → A) → A
either true y e f g = f refl
either false y e f g = g e

module _ (f : Format) (a b : ℕ) where
  alike_bits : Alike f a b → same_bits f a b ≡ true
  alike_bits (nans p q) = rw (p, q)
  alike_bits (zeros p q) = simp (p, q, or-true)
  alike_bits (equal e) = simp (eq-eqb a b e, or-true)

  bits_alike : same_bits f a b ≡ true → Alike f a b
  bits_alike h =
      either (nan_pattern f a && nan_pattern f b) ((zero_pattern f a && zero_pattern f b) || eqb a b) h
      (λ n. nans (and_left (nan_pattern f a) (nan_pattern f b) n) (and_right (nan_pattern f a) (nan_pattern f b) n))
      (λ r. either (zero_pattern f a && zero_pattern f b) (eqb a b) r
      (λ z. zeros (eqb-true (without_sign f a) 0 (and_left (zero_pattern f a) (zero_pattern f b) z)) (eqb-true (without_sign f b) 0 (and_right (zero_pattern f a) (zero_pattern f b) z)))
      (λ e. equal (eqb-true a b e)))

-- ---- floats that are `eq` have equal bits, but for the sign of a zero

module _ (f : Format) (s : Bool) (m : ℕ) (e : ℤ) (n : ℕ) (d : ℤ) (h : m * up e * down d ≡ n * up d * down e) where
  -- equal numbers are equal counts of the format's smallest value, which is all that `to_bits` reads
  same_count : m * up e * 2 ^ low f / down e ≡ n * up d * 2 ^ low f / down d
  same_count =
      div_same (m * up e * 2 ^ low f) (down e) (n * up d * 2 ^ low f) (down d) (down_pos e) (down_pos d)
      (rw (mul_right_comm (m * up e) (2 ^ low f) (down d), h) (mul_right_comm (n * up d) (down e) (2 ^ low f)))

  same_to_bits : to_bits f (fin s m e) ≡ to_bits f (fin s n d)
  unfolding to_bits
  same_to_bits = rw same_count

zero-magnitude : (f : Format) (s : Bool) (e : ℤ) → without_sign f (to_bits f (fin s 0 e)) ≡ 0
unfolding to_bits
zero-magnitude binary32 true e = simp (zero-mul, zero-div)
zero-magnitude binary32 false e = simp (zero-mul, zero-div)
zero-magnitude binary64 true e = simp (zero-mul, zero-div)
zero-magnitude binary64 false e = simp (zero-mul, zero-div)

signs : {A : Type 0} (s t z : Bool) → (beq s t || z) ≡ true → (s ≡ t → A) → (z ≡ true → A) → A
signs true true z h f g = f refl
signs true false z h f g = g h
signs false true z h f g = g h
signs false false z h f g = f refl

eq_alike : (f : Format) (x y : Float) → eq x y ≡ true → Alike f (to_bits f x) (to_bits f y)
unfolding eq
eq_alike f nan y h = absurd (false≢true h)
eq_alike f (inf s) nan h = absurd (false≢true h)
eq_alike f (inf s) (inf t) h = signs s t false (rw or-false h) (λ e. equal (rw e)) (λ e. absurd (false≢true e))
eq_alike f (inf s) (fin t n d) h = absurd (false≢true h)
eq_alike f (fin s m e) nan h = absurd (false≢true h)
eq_alike f (fin s m e) (inf t) h = absurd (false≢true h)
eq_alike f (fin s m e) (fin t n d) h =
    let a = m * up e * down d in
    let b = n * up d * down e in
    let same_number_lem : a ≡ b = eqb-true a b (and_left (eqb a b) (beq s t || eqb a 0) h) in
    signs s t (eqb a 0) (and_right (eqb a b) (beq s t || eqb a 0) h)
    (λ p. equal (rw p (same_to_bits f t m e n d same_number_lem)))
    (λ z. let is_zero : a ≡ 0 = eqb-true a 0 z in
    zeros (rw (same_to_bits f s m e 0 d (rw (is_zero, zero-mul, zero-mul))) (zero-magnitude f s d))
    (rw (same_to_bits f t n d 0 e (rw (← same_number_lem, is_zero, zero-mul, zero-mul))) (zero-magnitude f t e)))

-- ---- zeros, and a float and itself, are the same

same_float_lem : (x : Float) → same_float x x ≡ true
unfolding eq is_nan
same_float_lem nan = refl
same_float_lem (inf true) = refl
same_float_lem (inf false) = refl
same_float_lem (fin true m e) = simp (eq-eqb (m * up e * down e) (m * up e * down e) refl)
same_float_lem (fin false m e) = simp (eq-eqb (m * up e * down e) (m * up e * down e) refl)

zero_float : (f : Format) (a : ℕ) → without_sign f a ≡ 0 → of_bits f a ≡ fin (leb (top f) a) 0 (pos 0)
unfolding of_bits
zero_float f a h = rw (h, digits f a h, zero-div)
  where
    digits : (f : Format) (a : ℕ) → without_sign f a ≡ 0 → a % hid f ≡ 0
    digits binary32 a h = omega arith
    digits binary64 a h = omega arith

same-zero : (s t : Bool) → same_float (fin s 0 (pos 0)) (fin t 0 (pos 0)) ≡ true
unfolding eq is_nan
same-zero s t = simp or-true

-- ---- the law

module _ (f : Format) (a b : ℕ) where
  pub alike_value : Alike f a b → same_value f a b ≡ true
  alike_value (nans p q) = rw (← nan_pattern_lem f a, ← nan_pattern_lem f b, p, q)
  alike_value (zeros p q) = rw (zero_float f a p, zero_float f b q) (same-zero (leb (top f) a) (leb (top f) b))
  alike_value (equal e) = rw e (same_float_lem (of_bits f b))

  pub value_alike : a < 2 * top f → b < 2 * top f → same_value f a b ≡ true → Alike f a b
  value_alike ha hb h = go (nan_pattern f a) (nan_pattern f b) refl refl (rw (← nan_pattern_lem f a, ← nan_pattern_lem f b) at h)
    where
      go : (p q : Bool) → nan_pattern f a ≡ p → nan_pattern f b ≡ q → cond p q (cond q false (eq (of_bits f a) (of_bits f b))) ≡ true → Alike f a b
      go true true p q k = nans p q
      go true false p q k = absurd (false≢true k)
      go false true p q k = absurd (false≢true k)
      go false false p q k =
          let x : to_bits f (of_bits f a) ≡ a = to_bits-of_bits f a ha (rw (← nan_pattern_lem f a, p) tt) in
          let y : to_bits f (of_bits f b) ≡ b = to_bits-of_bits f b hb (rw (← nan_pattern_lem f b, q) tt) in
          rw (x, y) at (eq_alike f (of_bits f a) (of_bits f b) k)

  pub by_bits : a < 2 * top f → b < 2 * top f → same_value f a b ≡ same_bits f a b
  by_bits ha hb = same (λ h. alike_bits f a b (value_alike ha hb h)) (λ h. alike_value (bits_alike f a b h))
