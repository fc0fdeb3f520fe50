use lib.Ieee.{binary32}
use Rattle.float.proofs.Nan.{nan_pattern_lem}
use Rattle.float.proofs.U32FloatBits.is_nan.Goals as goal

pub returns : goal.returns
returns c = nan_pattern_lem binary32 c.args.self
