use lib.Ieee.{binary64}
use Rattle.float.proofs.Nan.{nan_pattern_lem}
use Rattle.float.proofs.U64FloatBits.is_nan.Goals as goal

pub returns : goal.returns
returns c = nan_pattern_lem binary64 c.args.self
