use native.Mathlib.Omega.{arith}
use Rattle.bit_utils.proofs.Packing.{cleared, kept}
use Rattle.laws.proofs.Bytes.{all-below}
use Rattle.bit_utils.proofs.clear_spare_bits.Goals as goal

pub returns-then-used-gt0 : goal.returns-then-used-gt0
returns-then-used-gt0 c =
    let a = c.args in
    rw c.high_bits.ensures (cleared a.s.now a.at a.n (all-below a.s.now c.slice_known-1.given) c.requires c.if-used-gt0.true)

pub returns-else-used-gt0 : goal.returns-else-used-gt0
returns-else-used-gt0 c =
    let a = c.args in
    kept a.s.now a.at a.n (all-below a.s.now c.slice_known-1.given) c.requires (omega arith)
