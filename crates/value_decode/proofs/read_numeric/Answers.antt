use Prim.Native.Nat.{◌/◌, ◌^◌, ◌<◌}
use native.Mathlib.Omega.{arith}
use Rattle.numeric.proofs.Bounds.{signable}
use Rattle.value_decode.proofs.read_numeric.Goals as goal

pub numeric_from-requires : goal.numeric_from-requires
numeric_from-requires c =
    let h : c.in-Some.magnitude / 2 ^ 64 < 2 ^ 63 = rw (← c.decode_numeric_bcd.ensures, c.in-Some.is) at (signable c.args.p c.args.bytes.now c.requires.0) in
    omega arith
