-- A bit of a byte set by `|` and cleared by `&`.
use Prim.Native.Nat.{ℕ, ◌+◌, ◌*◌, ◌-◌, ◌/◌, ◌%◌, ◌^◌, ◌<◌}
use mathlib.Core.Path.{◌≡◌, sym, ◌∙◌, ap}
use native.Mathlib.Omega.{arith}
use Rattle.std.specs.Int.Bits.{bit_and, bit_or, or_add_and}
use Rattle.std.proofs.lemmas.Nat.{and_comm, and-not}
use Rattle.std.proofs.lemmas.Nat.Bits.{and_pow}
use Rattle.laws.specs.Bits.{bit_of, put_bit}
use Rattle.laws.proofs.Bits.{bit_le, by_eight}

pub bit-set : (k b : ℕ) → bit_or b (2 ^ k) ≡ put_bit 1 k b
bit-set k b = omega (arith, or_add_and b (2 ^ k), and_pow b k, bit_le k b)

pow_fits : (k : ℕ) → k < 8 → 2 ^ k < 256
pow_fits k h = by_eight (λ j. 2 ^ j < 256) (omega arith) (omega arith) (omega arith) (omega arith) (omega arith) (omega arith) (omega arith) (omega arith) k h

pub bit-clear : (k b : ℕ) → k < 8 → b < 256 → bit_and b (255 - 2 ^ k) ≡ put_bit 0 k b
bit-clear k b h l =
    let parts : bit_and (255 - 2 ^ k) b + bit_and (2 ^ k) b ≡ b = and-not 8 (2 ^ k) b (pow_fits k h) l in
    let turned : bit_and b (255 - 2 ^ k) ≡ bit_and (255 - 2 ^ k) b = and_comm b (255 - 2 ^ k) in
    let own : bit_and (2 ^ k) b ≡ bit_of k b * 2 ^ k = and_comm (2 ^ k) b ∙ and_pow b k in
    omega (arith, parts, turned, own, bit_le k b)
