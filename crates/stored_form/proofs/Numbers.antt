-- Numbers written and read back.
use Prim.Native.Nat.{ℕ, zero, suc, ◌+◌, ◌*◌, ◌-◌, ◌/◌, ◌^◌, ◌≤◌, ◌<◌}
use mathlib.Core.Path.{◌≡◌, refl, ap, ◌∙◌}
use mathlib.Core.Bool.{Bool, true, false, cond}
use native.Mathlib.Omega.{arith}
use borrow.Author.Tests.{leb-true}
use lib.Dec.{eqb, leb}
use lib.IntN.{ℤ, pos, negsuc}
use mir.Syntax.{Width, w64}
use mir.Val.{bits, Fits, SFits, to_z, of_z}
use mir.ValLaws.{to_z-of_z, of_z_fits}
use Rattle.laws.specs.Bytes.{to_le, from_le}
use Rattle.laws.proofs.Bytes.{from_to}
use Rattle.numeric.proofs.Digits.{upper_half, lower_half}
use Rattle.value.specs.declared.NumericValue.{NumericValue}
use Rattle.stored_form.specs.Number.{is_negative, magnitude, numeric_of}

-- a number of n bytes
module _ (w : Width) (n : ℕ) (s : 2 ^ bits w ≡ 256 ^ n) where
  pub unsigned_back : (x : ℕ) → Fits w x → from_le (to_le n x) ≡ x
  unsigned_back x f = from_to n x (rw s at f.fits)

  pub signed_back : (z : ℤ) → SFits w z → to_z w (from_le (to_le n (of_z w z))) ≡ z
  signed_back z f = ap (to_z w) (unsigned_back (of_z w z) (of_z_fits w z f)) ∙ to_z-of_z w z f

-- a Bool's byte
pub bool_back : (b : ℕ) → leb b 1 ≡ true → cond (eqb b 0) 0 1 ≡ b
bool_back zero e = refl
bool_back (suc zero) e = refl
bool_back (suc (suc b)) e = let l : suc (suc b) ≤ 1 = leb-true (suc (suc b)) 1 e in absurd (omega arith)

-- ---- a number in two halves

module _ (h low : ℕ) (l : low < 2 ^ 64) where
  -- below zero, the magnitude less 1
  less : suc h * 2 ^ 64 - low ≡ suc (h * 2 ^ 64 + (2 ^ 64 - 1 - low))
  less = omega arith

  twice : 2 ^ 64 - 1 - (2 ^ 64 - 1 - low) ≡ low
  twice = omega arith

  other : 2 ^ 64 - 1 - low < 2 ^ 64
  other = omega arith

-- its sign and its magnitude give the number back
halves-back : (h : ℤ) (low s : ℕ) → low < 2 ^ 64 → numeric_of (is_negative h) (magnitude h low) s ≡ record { high = h; low = low; scale = s }
halves-back (pos h) low s l = rw (upper_half h low l, lower_half h low l)
halves-back (negsuc h) low s l =
    let m : ℕ = 2 ^ 64 - 1 - low in
    rw (less h low l, upper_half h m (other h low l), lower_half h m (other h low l), twice h low l)

pub number_back : (n : NumericValue) (s : ℕ) → n.low < 2 ^ 64 → n.scale ≡ s → numeric_of (is_negative n.high) (magnitude n.high n.low) s ≡ n
number_back n s l e = rw (← e) (halves-back n.high n.low n.scale l)

-- its upper half is a machine's number if that of the magnitude can be signed
pub number_fits : (negative : Bool) (m s : ℕ) → m / 2 ^ 64 < 2 ^ 63 → SFits w64 (numeric_of negative m s).high
number_fits false m s h = record { sfits = h }
number_fits true zero s h = record { sfits = omega arith }
number_fits true (suc m) s h = record { sfits = omega arith }
