-- Bits copied to a place and their spare bits cleared there.
use Prim.Native.Nat.{ℕ, ◌+◌, ◌≤◌}
use mathlib.Core.Path.{◌≡◌, sym, ◌∙◌}
use mathlib.Core.List.{List}
use lib.ListN.{length, take, drop}
use lib.Seq.{sets}
use Rattle.laws.proofs.Bytes.{sets_over, part-stored}
use Rattle.bit_utils.specs.Bits.{bytes_for, pack_bits, unpack_bits}
use Rattle.bit_utils.proofs.Packing.{length-packed}

pub bits_stored_lem : (out : List ℕ) (at n : ℕ) (bits p q : List ℕ) → length bits ≡ bytes_for n → at + bytes_for n ≤ length out
    → p ≡ sets out at bits → q ≡ sets p at (pack_bits n (unpack_bits n (take (bytes_for n) (drop at p)))) → q ≡ sets out at (pack_bits n (unpack_bits n bits))
bits_stored_lem out at n bits p q e h copied cleared =
    let there : take (bytes_for n) (drop at p) ≡ bits = rw (copied, ← e) (part-stored out at bits (rw e h)) in
    cleared ∙ rw (there, copied) (sets_over out at bits (rw e h) (pack_bits n (unpack_bits n bits)) (e ∙ sym (length-packed (bytes_for n) (unpack_bits n bits))))
