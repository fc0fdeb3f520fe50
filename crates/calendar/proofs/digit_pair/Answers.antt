use Rattle.calendar.proofs.Texts.{pair_digits}
use Rattle.calendar.proofs.digit_pair.Goals as goal

pub returns : goal.returns
returns c = pair_digits c.args.n c.requires
