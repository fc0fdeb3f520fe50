use Rattle.laws.specs.Bits.{bit_value}
use Rattle.row_patch.proofs.Columns.{bit-stored}
use Rattle.row_patch.proofs.put_bit.Goals as goal

pub returns : goal.returns
returns c =
    let y = c.put_null in
    bit-stored (bit_value c.args.null) c.args.columns c.args.column c.args.row.now y.result _
    c.bitmap_offset-bitmap.ensures c.requires.0 c.requires.1 y.ensures
