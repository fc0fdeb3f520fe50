use Rattle.laws.proofs.Tests.{by_tests}
use Rattle.row_text.proofs.holds_text.Goals as goal

pub returns-then-kind-eq-CHAR : goal.returns-then-kind-eq-CHAR
returns-then-kind-eq-CHAR c = rw (← c.value_kind-kind.ensures) (search by_tests)

pub returns : goal.returns
returns c = rw (← c.value_kind-kind.ensures) (search by_tests)
