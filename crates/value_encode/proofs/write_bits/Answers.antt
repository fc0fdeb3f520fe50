use Rattle.value_encode.proofs.Stored.{bits_stored_lem}
use Rattle.value_encode.proofs.write_bits.Goals as goal

pub returns : goal.returns
returns c =
    let a = c.args in
    bits_stored_lem a.out.now a.at a.n a.bits.now _ _ c.requires.0 c.requires.1 c.copy.ensures c.clear_spare_bits.ensures
