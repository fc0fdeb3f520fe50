use borrow.Author.Rules.{rules}
use native.Mathlib.Omega.{arith}
use Rattle.laws.proofs.Tests.{by_tests}
use Rattle.record_slot.proofs.declared_length.Goals as goal

pub returns-then-schema-at : goal.returns-then-schema-at
returns-then-schema-at c = (search by_tests, omega arith)

pub returns : goal.returns
returns c = (rw c.read_u16.ensures (search by_tests), search rules)
