use Prim.Native.Nat.{◌-◌, ◌^◌}
use mathlib.Core.Path.{◌≡◌, ◌∙◌}
use native.Mathlib.Omega.{arith}
use lib.Pow.{pow_pos}
use Rattle.std.proofs.lemmas.Nat.Bits.{ones_shr, and_high_mask}
use Rattle.bit_utils.proofs.Packing.{high-packed}
use Rattle.bit_utils.proofs.high_bits.Goals as goal

pub returns : goal.returns
returns c =
    let b = c.args.b in
    let k = c.args.k in
    let e : 255 - (2 ^ (8 - k) - 1) ≡ 2 ^ 8 - 2 ^ (8 - k) = omega (arith, pow_pos (8 - k)) in
    rw (ones_shr 8 k (omega arith), e) (and_high_mask 8 (8 - k) (omega arith) b (omega arith) ∙ high-packed b k (omega arith) (omega arith))
