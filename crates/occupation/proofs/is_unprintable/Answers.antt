-- `is_unprintable` meets its contract.
use Rattle.std.proofs.Common.{rules, tests}
use Rattle.std.proofs.lemmas.Iterator.{YieldsList-from_slice}
use Rattle.std.proofs.lemmas.Iterator.Search.{any_from_yields_List}
use mathlib.Core.Path.{◌∙◌}
use Rattle.occupation.proofs.Texts.{is_bad, any_bad}
use Rattle.occupation.proofs.is_unprintable.Goals as goal

pub returns : goal.returns
returns c =
    any_from_yields_List is_bad _ _ _ c.any.ensures.ran (YieldsList-from_slice c.args.text.now cc) (λ x b q k. search (rules, tests))
    ∙ any_bad c.args.text.now
