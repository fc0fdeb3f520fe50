use mathlib.Core.Path.{sym, ◌∙◌}
use Rattle.laws.proofs.Stores.{sets_self}
use Rattle.endian.proofs.Runs.{moved}
use Rattle.endian.proofs.move_within.Goals as goal

pub returns-then-from-to : goal.returns-then-from-to
returns-then-from-to c = let a = c.args in c.copy_within.ensures.after ∙ moved a.s.now a.from a.to a.n c.requires.0 c.requires.1

pub returns-else-from-to : goal.returns-else-from-to
returns-else-from-to c = let a = c.args in rw c.if-from-to.false (sym (sets_self a.s.now a.to a.n c.requires.1))
