use mathlib.Core.Path.{refl, ◌∙◌}
use mathlib.Core.List.{[]}
use Rattle.row_patch.proofs.Held.{replaced}
use Rattle.row_patch.proofs.remove.Goals as goal

pub returns : goal.returns
returns c = c.move_tail.ensures ∙ replaced c.requires [] refl
