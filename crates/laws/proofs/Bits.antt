-- One bit of a byte: read, set and cleared.
use Prim.Native.Nat.{ℕ, zero, suc, ◌+◌, ◌*◌, ◌-◌, ◌/◌, ◌%◌, ◌^◌, ◌≤◌, ◌<◌}
use mathlib.Core.Path.{◌≡◌, refl, ◌∙◌}
use mathlib.Core.Bool.{Bool, true, false}
use native.Mathlib.Nat.{mod-le, div-mul-le_self, mul-le-mul_right}
use native.Mathlib.Omega.{arith}
use lib.Pow.{shl_exact}
use mir.Val.{bool_byte}
use Rattle.laws.specs.Bits.{bit_value, bit_of, put_bit}

-- a bool as a number
pub bool_bit : (t : Bool) → bool_byte t ≡ bit_value t
bool_bit true = refl
bool_bit false = refl

pub by_eight : (P : ℕ → Type 0) → P 0 → P 1 → P 2 → P 3 → P 4 → P 5 → P 6 → P 7 → (k : ℕ) → k < 8 → P k
by_eight P a b c d e f g h zero l = a
by_eight P a b c d e f g h (suc zero) l = b
by_eight P a b c d e f g h (suc (suc zero)) l = c
by_eight P a b c d e f g h (suc (suc (suc zero))) l = d
by_eight P a b c d e f g h (suc (suc (suc (suc zero)))) l = e
by_eight P a b c d e f g h (suc (suc (suc (suc (suc zero))))) l = f
by_eight P a b c d e f g h (suc (suc (suc (suc (suc (suc zero)))))) l = g
by_eight P a b c d e f g h (suc (suc (suc (suc (suc (suc (suc zero))))))) l = h
by_eight P a b c d e f g h (suc (suc (suc (suc (suc (suc (suc (suc k)))))))) l = absurd (omega arith)

-- `1 << k` at a byte
pub shifted_one : (k : ℕ) → k < 8 → 1 * 2 ^ k % 256 ≡ 2 ^ k
shifted_one k h = shl_exact {a = 1} 1 k 8 (omega arith) (omega arith) ∙ omega arith

module _ (k b : ℕ) where
  -- a bit that is set can be taken away
  pub set-le : bit_of k b ≡ 1 → 2 ^ k ≤ b
  set-le h =
      let one : 1 ≤ b / 2 ^ k = omega arith in
      omega (arith, mul-le-mul_right (2 ^ k) one, div-mul-le_self b (2 ^ k))

  -- and one that is clear can be added
  pub clear_lt : k < 8 → b < 256 → (bit_of k b ≡ 1 → ⊥) → b + 2 ^ k < 256
  clear_lt h l n =
      by_eight (λ j. (bit_of j b ≡ 1 → ⊥) → b + 2 ^ j < 256) (λ m. omega arith) (λ m. omega arith) (λ m. omega arith) (λ m. omega arith) (λ m. omega arith) (λ m. omega arith) (λ m. omega arith) (λ m. omega arith) k h n

  clear : (bit_of k b ≡ 1 → ⊥) → bit_of k b ≡ 0
  clear n = omega (arith, n)

  pub bit_le : bit_of k b * 2 ^ k ≤ b
  bit_le = omega (arith, mul-le-mul_right (2 ^ k) (mod-le (b / 2 ^ k) 2), div-mul-le_self b (2 ^ k))

  -- a bit put where it is already, taken away and added
  pub put_same : (v : ℕ) → bit_of k b ≡ v → b ≡ put_bit v k b
  put_same v e = let l = bit_le in rw (← e) (omega arith)

  pub put_clear : bit_of k b ≡ 1 → b - 2 ^ k ≡ put_bit 0 k b
  put_clear e = rw e (omega arith)

  pub put-set : (bit_of k b ≡ 1 → ⊥) → b + 2 ^ k ≡ put_bit 1 k b
  put-set n = rw (clear n) (omega arith)

  pub put-none : (bit_of k b ≡ 1 → ⊥) → b ≡ put_bit 0 k b
  put-none n = put_same 0 (clear n)
