use Rattle.laws.proofs.Tests.{by_tests}
use Rattle.record_slot.proofs.after_column.Goals as goal

pub returns-then-plain_size-eq0 : goal.returns-then-plain_size-eq0
returns-then-plain_size-eq0 c = rw (← c.plain_size.ensures.0) (search by_tests)

pub returns : goal.returns
returns c = rw (← c.plain_size.ensures.0) (search by_tests)
