use Rattle.row_decode.specs.InnerMarks.{marked}
use lib.ListN.{length, drop}
use mathlib.Core.Path.{◌≡◌}
use Rattle.row_decode.proofs.mark_wanted.Given as goal

abbrev pub invariant-loop-column : goal.invariant-loop-column
invariant-loop-column l = (length l.marks ≡ length l.initial.marks) × (marked l.marks (drop l.column-index l.wanted) ≡ marked l.initial.marks l.wanted)
