-- Decimal digits: one more of them, and the number that they denote.
use Prim.Native.Nat.{ℕ, zero, suc, ◌+◌, ◌*◌, ◌/◌, ◌%◌, ◌^◌, ◌≤◌, ◌<◌}
use mathlib.Core.Path.{◌≡◌, refl, sym, ap, ◌∙◌}
use native.Mathlib.Nat.{add-mul, mul_assoc, mul_comm, pow-suc, one-le-pow, mod-lt, mod-eq_of_lt, div-eq_of_lt, div-add-mod', div-lt_iff_lt-mul, mul-add-div_right, mul-add-mod_self_right}
use native.Mathlib.Omega.{arith}
use lib.Arith.{mod-mul}
use lib.ListN.{length}
use Rattle.numeric.specs.Decimal.{digits, denote}

-- a number in two halves of 64 bits, and its halves
abbrev pub halves : ℕ → ℕ → ℕ
halves high low = high * 2 ^ 64 + low

module _ (high low : ℕ) (l : low < 2 ^ 64) where
  pub upper_half : halves high low / 2 ^ 64 ≡ high
  upper_half = omega arith

  pub lower_half : halves high low % 2 ^ 64 ≡ low
  lower_half = omega arith

-- ---- a division in two steps of 32 bits

by_parts : (n d q r : ℕ) → n ≡ q * d + r → r < d → (q ≡ n / d) × (r ≡ n % d)
by_parts n d q r e h =
    let pos : 0 < d = omega arith in
    (sym (rw (e, mul-add-div_right pos q r, div-eq_of_lt h) (omega arith)), sym (rw (e, mul-add-mod_self_right q d r) (mod-eq_of_lt h)))

swapped : (x k d : ℕ) → x * k * d ≡ x * d * k
swapped x k d = mul_assoc x k d ∙ ap (λ (z : ℕ). x * z) (mul_comm k d) ∙ sym (mul_assoc x d k)

joined : (u v w m e r high low : ℕ) → u + m ≡ high → v + e ≡ m * 0x100000000 + low / 0x100000000 → w + r ≡ e * 0x100000000 + low % 0x100000000
    → halves high low ≡ u * 2 ^ 64 + (v * 0x100000000 + w) + r
joined u v w m e r high low p q s = omega arith

module _ (high low d : ℕ) (pos : 1 ≤ d) where
  abbrev pub upper : ℕ
  upper = high % d * 0x100000000 + low / 0x100000000

  abbrev pub lower : ℕ
  lower = upper % d * 0x100000000 + low % 0x100000000

  whole : halves high low ≡ halves (high / d) (upper / d * 0x100000000 + lower / d) * d + lower % d
  whole =
      rw (add-mul (high / d * 2 ^ 64) (upper / d * 0x100000000 + lower / d) d, add-mul (upper / d * 0x100000000) (lower / d) d, swapped (high / d) (2 ^ 64) d, swapped (upper / d) 0x100000000 d)
      (joined (high / d * d) (upper / d * d) (lower / d * d) (high % d) (upper % d) (lower % d) high low (div-add-mod' high d) (div-add-mod' upper d) (div-add-mod' lower d))

  pub halves_divided : (halves (high / d) (upper / d * 0x100000000 + lower / d) ≡ halves high low / d) × (lower % d ≡ halves high low % d)
  halves_divided = by_parts _ d _ _ whole (mod-lt lower pos)

  -- what the machine holds
  shifted : (m l : ℕ) → m < d → l < 0x100000000 → m * 0x100000000 + l < d * 0x100000000
  shifted m l h k = omega arith

  pub upper_part : low < 2 ^ 64 → upper / d < 0x100000000
  upper_part h =
      (div-lt_iff_lt-mul {k = d} {x = upper} {y = 0x100000000} pos).1
      (rw (mul_comm 0x100000000 d) (shifted (high % d) (low / 0x100000000) (mod-lt high pos) (omega arith)))

  pub lower-part : lower / d < 0x100000000
  lower-part =
      (div-lt_iff_lt-mul {k = d} {x = lower} {y = 0x100000000} pos).1
      (rw (mul_comm 0x100000000 d) (shifted (upper % d) (low % 0x100000000) (mod-lt upper pos) (omega arith)))

pub length_digits : (n x : ℕ) → length (digits n x) ≡ n
unfolding digits
length_digits zero x = refl
length_digits (suc n) x = ap suc (length_digits n x)

-- the digits denote the number
pub denote-digits : (n x : ℕ) → denote (digits n x) ≡ x % 10 ^ n
unfolding digits
denote-digits zero x = omega arith
denote-digits (suc n) x =
    rw (length_digits n x, denote-digits n x, pow-suc 10 n, mul_comm (10 ^ n) 10) (sym (mod-mul x {m = 10} {c = 10 ^ n} (omega arith) (one-le-pow n 10 (omega arith))))
