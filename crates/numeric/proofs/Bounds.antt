-- How large a number is that was read: its upper half can be signed.
use Prim.Native.Nat.{ℕ, ◌+◌, ◌*◌, ◌/◌, ◌^◌, ◌≤◌, ◌<◌}
use mathlib.Core.Path.{◌≡◌, refl}
use mathlib.Core.Bool.{Bool, true, false}
use mathlib.Core.List.{List, [], ◌∷◌}
use native.Mathlib.Nat.{pow-suc, pow-le-pow_right, lt_of_lt_of_le, div-lt_iff_lt-mul, mul-le-mul_right}
use native.Mathlib.Omega.{arith}
use borrow.Author.Tests.{leb-true}
use lib.Dec.{eqb, leb}
use lib.ListN.{length, get_or, take, drop, length-take}
use Rattle.std.specs.Prelude.{Option, None, Some}
use Rattle.laws.proofs.Truths.{and_left, and_right, by_cond}
use Rattle.numeric.specs.Decimal.{denote}
use Rattle.numeric.specs.Packed.{nibbles, front_size, all_digits, signed, decode_bcd}

-- n digits denote a number below 10 ^ n
pub denote-below : (ds : List ℕ) → all_digits ds ≡ true → denote ds < 10 ^ length ds
denote-below [] e = omega arith
denote-below (d ∷ ds) e =
    let l : d ≤ 9 = leb-true d 9 (and_left (leb d 9) (all_digits ds) e) in
    let ih : denote ds < 10 ^ length ds = denote-below ds (and_right (leb d 9) (all_digits ds) e) in
    rw (pow-suc 10 (length ds)) (omega (arith, mul-le-mul_right (10 ^ length ds) l))

-- 38 digits do not reach 2 ^ 127
below-signed : (x n : ℕ) → x < 10 ^ n → n ≤ 38 → x / 2 ^ 64 < 2 ^ 63
below-signed x n h l = (div-lt_iff_lt-mul {k = 2 ^ 64} {x = x} {y = 2 ^ 63} (omega arith)).1 (lt_of_lt_of_le (lt_of_lt_of_le h (pow-le-pow_right (omega arith) l)) (leb-true (10 ^ 38) (2 ^ 63 * 2 ^ 64) refl))

-- what is read from at most 38 digits is no number, or one whose upper half can be signed
pub by_number : (P : Option (Bool × ℕ) → Type 0) (p : ℕ) (bs : List ℕ) → p ≤ 38 → P None
    → ((negative : Bool) (x : ℕ) → x / 2 ^ 64 < 2 ^ 63 → P (Some (negative, x))) → P (decode_bcd p bs)
by_number P p bs h none some =
    let ds = take p (drop (front_size p) (nibbles bs)) in
    let s = get_or (nibbles bs) (front_size p + p) 0 in
    by_cond (λ m. P (signed s m)) (all_digits ds) (Some (denote ds)) None
    (λ e.
    let l : denote ds / 2 ^ 64 < 2 ^ 63 = below-signed (denote ds) (length ds) (denote-below ds e) (rw length-take (omega arith)) in
    by_cond P (eqb s 0xC) (Some (false, denote ds)) _ (λ _. some false (denote ds) l)
    (λ _. by_cond P (eqb s 0xD) (Some (true, denote ds)) None (λ _. some true (denote ds) l) (λ _. none)))
    (λ _. none)

abbrev pub Signable : Option (Bool × ℕ) → Type 0
Signable (Some r) = r.1 / 2 ^ 64 < 2 ^ 63
Signable None = Unit {0}

pub signable : (p : ℕ) (bs : List ℕ) → p ≤ 38 → Signable (decode_bcd p bs)
signable p bs h = by_number Signable p bs h tt (λ negative x l. l)
