use Rattle.laws.proofs.Bits.{bool_bit}
use Rattle.row_handle.proofs.geometry_of.Goals as goal

pub returns : goal.returns
returns c =
    let a = c.args in
    rw (c.fixed_size.ensures, bool_bit a.packed, bool_bit a.layout.is_long)
