use Prim.Native.Nat.{◌-◌}
use lib.ListN.{length}
use Rattle.text.specs.InnerRuns.{Ascii}
use Rattle.text.proofs.ascii_blocks.Given as goal

abbrev pub invariant-loop-i : goal.invariant-loop-i
invariant-loop-i l = Ascii l.s l.first l.i

abbrev pub decreases-loop-i : goal.decreases-loop-i
decreases-loop-i l = length l.s - l.i
