use mathlib.Core.Path.{sym, ◌∙◌}
use native.Mathlib.Omega.{arith}
use Rattle.text_limit.proofs.Limits.{few_bytes}
use Rattle.text_limit.proofs.is_within.Goals as goal

pub returns-then-s-n : goal.returns-then-s-n
returns-then-s-n c =
    let a = c.args in
    c.is_valid.ensures ∙ sym (few_bytes a.by_points a.n a.s.now (omega arith))
