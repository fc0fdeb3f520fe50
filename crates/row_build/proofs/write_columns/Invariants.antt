use Rattle.row_build.proofs.Writing.{Writing}
use Rattle.row_build.proofs.Counting.{Counting}
use Rattle.row_build.proofs.write_columns.Given as goal

abbrev pub invariant-loop-column : goal.invariant-loop-column
invariant-loop-column l = Writing l.schema l.fn.layout l.values l.text l.initial.out l.out l.column l.at l.from l.slot l.entry l.end × Counting l.schema l.values l.text l.initial.counts l.counts l.column
