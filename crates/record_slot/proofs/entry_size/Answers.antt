use native.Mathlib.Omega.{arith}
use Rattle.laws.proofs.Tests.{by_tests}
use Rattle.record_slot.proofs.entry_size.Goals as goal

pub returns-then-kind-eq-VARCHAR : goal.returns-then-kind-eq-VARCHAR
returns-then-kind-eq-VARCHAR c = let w = c.offset_width.ensures in (rw w.0 (search by_tests), w.1)

pub returns : goal.returns
returns c = (search by_tests, omega arith)
