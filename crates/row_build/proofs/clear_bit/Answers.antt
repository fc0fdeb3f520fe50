use Rattle.row_build.proofs.Bits.{bit_cleared}
use Rattle.row_build.proofs.clear_bit.Goals as goal

pub returns : goal.returns
returns c =
    let y = c.clear_null in
    bit_cleared c.args.out.now c.args.n c.args.i y.result y.new.bits
    c.bitmap_offset-bitmap.ensures c.requires.0 c.requires.1 y.ensures
