use Prim.Native.Nat.{◌≤◌}
use native.Mathlib.Omega.{arith}
use lib.ListN.{get_or}
use Rattle.numeric.proofs.Packing.{last_digit, packed_from}
use Rattle.numeric.proofs.encode_numeric_bcd.Goals as goal

pub overflow_add-s : goal.overflow_add-s
overflow_add-s c =
    let d : get_or c.digits_of-d.result 19 0 ≤ 144 = rw c.digits_of-d.ensures (last_digit c.args.n) in
    omega (arith, d, c.sign_nibble.ensures.1)

pub returns : goal.returns
returns c =
    let a = c.args in
    rw (c.copy_from_slice.ensures.after, c.digits_of-d.ensures, c.sign_nibble.ensures.0) (packed_from a.p a.n c.requires.1.0 c.requires.0 a.negative a.s.now a.at c.requires.1.1)
