-- A bit that was put is read back, and the other bits are as before.
use Prim.Native.Nat.{ℕ, ◌+◌, ◌*◌, ◌-◌, ◌/◌, ◌%◌, ◌^◌, ◌≤◌, ◌<◌}
use mathlib.Core.Path.{◌≡◌, sym, ap, ◌∙◌}
use mathlib.Core.List.{List}
use native.Mathlib.Nat.{add-mul, mod-lt}
use native.Mathlib.Omega.{arith}
use lib.ListN.{length, get_or}
use lib.Pow.{pow_pos, split, high, low, shr-shr, field, mod-mod-pow}
use lib.Seq.{get_or-set_same, get_or-set_other}
use Rattle.laws.specs.Bits.{bit_of, put_bit, bit_at, put_bit_at}
use Rattle.laws.proofs.Truths.{cases}

-- ---- a byte

module _ (v k b : ℕ) (le : v ≤ 1) where
  -- the bits above bit k, bit k, and the bits below it
  abbrev upper : ℕ
  upper = b / 2 ^ k / 2 * 2 + v

  cut : put_bit v k b ≡ upper * 2 ^ k + b % 2 ^ k
  cut =
      let q : ℕ = b / 2 ^ k in
      let e : q / 2 * 2 + q % 2 ≡ q = omega arith in
      let parts : (q / 2 * 2 + q % 2) * 2 ^ k ≡ q / 2 * 2 * 2 ^ k + q % 2 * 2 ^ k = add-mul (q / 2 * 2) (q % 2) (2 ^ k) in
      let whole : q / 2 * 2 * 2 ^ k + q % 2 * 2 ^ k + b % 2 ^ k ≡ b = ap (λ (x : ℕ). x + b % 2 ^ k) (sym parts ∙ ap (λ (x : ℕ). x * 2 ^ k) e) ∙ split b k in
      rw (add-mul (q / 2 * 2) v (2 ^ k)) (omega (arith, whole))

  from-bit : put_bit v k b / 2 ^ k ≡ upper
  from-bit = rw cut (high upper k (mod-lt b (pow_pos k)))

  below-bit : put_bit v k b % 2 ^ k ≡ b % 2 ^ k
  below-bit = rw cut (low upper k (mod-lt b (pow_pos k)))

  pub bit-put : bit_of k (put_bit v k b) ≡ v
  bit-put = rw from-bit (omega arith)

  higher : (d : ℕ) → bit_of (k + (1 + d)) (put_bit v k b) ≡ bit_of (k + (1 + d)) b
  higher d =
      let u : upper / 2 ≡ b / 2 ^ k / 2 = omega arith in
      rw (← shr-shr (put_bit v k b) k (1 + d), ← shr-shr b k (1 + d), from-bit, ← shr-shr upper 1 d, ← shr-shr (b / 2 ^ k) 1 d, u)

-- bit m is among the bits up to it
low_bits : (m n : ℕ) → bit_of m n ≡ n % 2 ^ (1 + m) / 2 ^ m
low_bits m n = sym (field n 1 m)

lower : (v m d b : ℕ) → v ≤ 1 → bit_of m (put_bit v (d + (1 + m)) b) ≡ bit_of m b
lower v m d b le =
    let x : ℕ = put_bit v (d + (1 + m)) b in
    let same : x % 2 ^ (1 + m) ≡ b % 2 ^ (1 + m) = sym (mod-mod-pow x d (1 + m)) ∙ ap (λ (n : ℕ). n % 2 ^ (1 + m)) (below-bit v (d + (1 + m)) b le) ∙ mod-mod-pow b d (1 + m) in
    low_bits m x ∙ ap (λ (n : ℕ). n / 2 ^ m) same ∙ sym (low_bits m b)

pub bit_kept : (v k j b : ℕ) → v ≤ 1 → (k ≡ j → ⊥) → bit_of j (put_bit v k b) ≡ bit_of j b
bit_kept v k j b le ne =
    cases k j (λ h. let e : k + (1 + (j - k - 1)) ≡ j = omega arith in rw e at (higher v k b le (j - k - 1)))
    (λ h. let e : k - j - 1 + (1 + j) ≡ k = omega (arith, ne) in rw e at (lower v j (k - j - 1) b le))

-- ---- a run of bytes

module _ (v i : ℕ) (bs : List ℕ) (le : v ≤ 1) (h : i / 8 < length bs) where
  pub bit_at_put : bit_at i (put_bit_at v i bs) ≡ v
  bit_at_put = ap (bit_of (i % 8)) (get_or-set_same bs (i / 8) _ 0 h) ∙ bit-put v (i % 8) (get_or bs (i / 8) 0) le

  other_byte : (j : ℕ) → (j / 8 ≡ i / 8 → ⊥) → bit_at j (put_bit_at v i bs) ≡ bit_at j bs
  other_byte j ne = ap (bit_of (j % 8)) (get_or-set_other bs (i / 8) (j / 8) _ 0 ne)

  same_byte : (j : ℕ) → j / 8 ≡ i / 8 → (i ≡ j → ⊥) → bit_at j (put_bit_at v i bs) ≡ bit_at j bs
  same_byte j e ne = rw e (ap (bit_of (j % 8)) (get_or-set_same bs (i / 8) _ 0 h) ∙ bit_kept v (i % 8) (j % 8) (get_or bs (i / 8) 0) le (λ q. ne (omega arith)))

  pub bit_at_kept : (j : ℕ) → (i ≡ j → ⊥) → bit_at j (put_bit_at v i bs) ≡ bit_at j bs
  bit_at_kept j ne = cases (j / 8) (i / 8) (λ a. other_byte j (λ e. omega arith)) (λ a. cases (i / 8) (j / 8) (λ b. other_byte j (λ e. omega arith)) (λ b. same_byte j (omega arith) ne))
