use Rattle.text.specs.InnerRuns.{Ascii}
use Rattle.text.proofs.ascii_bytes.Given as goal

abbrev pub invariant-loop-i : goal.invariant-loop-i
invariant-loop-i l = Ascii l.s l.first l.i
