use Rattle.row_build.proofs.Measuring.{Walking}
use Rattle.row_build.proofs.row_length.Given as goal

abbrev pub invariant-loop-column : goal.invariant-loop-column
invariant-loop-column l = Walking l.schema l.fn.layout l.values l.text l.size l.column l.at l.from
