use Rattle.value.specs.Ranges.{range_of}
use Rattle.row_edit.proofs.Stored.{fixed_ready, fixed-done}
use Rattle.row_edit.proofs.set_fixed.Goals as goal

pub write_value-requires : goal.write_value-requires
write_value-requires c =
    (fixed_ready c.requires.0 c.requires.1.0 c.requires.1.1.0 (range_of c.args.value).length, c.requires.1.1.1)

pub returns : goal.returns
returns c =
    fixed-done c.requires.0 c.requires.1.0 c.requires.1.1.0 c.requires.1.1.1 c.write_value.ensures
