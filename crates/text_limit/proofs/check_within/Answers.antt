use mathlib.Core.Path.{◌∙◌}
use native.Mathlib.Omega.{arith}
use Rattle.text_limit.proofs.Limits.{few-checked}
use Rattle.text_limit.proofs.check_within.Goals as goal

pub returns-then-n-s : goal.returns-then-n-s
returns-then-n-s c =
    let a = c.args in
    c.check.ensures ∙ few-checked a.by_points a.n a.s.now (omega arith)
