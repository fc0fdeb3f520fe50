use Prim.Native.Nat.{◌+◌}
use mathlib.Core.Bool.{true}
use mathlib.Core.Logic.{◌↔◌}
use mathlib.Core.Path.{◌≡◌}
use Rattle.text.specs.InnerEach.{Each}
use Rattle.text.specs.InnerRuns.{is_ascii}
use Rattle.text.proofs.ascii.Given as goal

abbrev pub invariant-loop-b : goal.invariant-loop-b
invariant-loop-b l = (l.ok ≡ true) ↔ Each (is_ascii l.s) l.first (l.first + l.b-index)
