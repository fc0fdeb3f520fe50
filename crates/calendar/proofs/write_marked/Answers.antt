use native.Mathlib.Numerals.{add-one}
use Rattle.calendar.proofs.write_marked.Goals as goal

pub returns : goal.returns
returns c = rw c.write_pair.ensures (simp add-one)
