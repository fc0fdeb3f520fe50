use Prim.Native.Nat.{◌+◌, ◌*◌}
use Rattle.text.specs.InnerRuns.{Going}
use Rattle.text.proofs.chars.Given as goal

abbrev pub invariant-loop-n : goal.invariant-loop-n
invariant-loop-n g l = Going g.row.N l.s l.first (l.first + g.row.N * l.n)
