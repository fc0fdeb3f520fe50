use Rattle.row_build.proofs.Nulls.{length-null-row}
use Rattle.laws.proofs.Tests.{by_tests}
use Rattle.row_build.proofs.fresh_row.Goals as goal

pub returns-then-out-least : goal.returns-then-out-least
returns-then-out-least c = rw (length-null-row c.args.layout, ← c.min_row_size-least.ensures) (search by_tests)

pub returns : goal.returns
returns c = rw (length-null-row c.args.layout, ← c.min_row_size-least.ensures, c.write_nulls.ensures) (search by_tests)
