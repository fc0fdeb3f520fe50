use native.Mathlib.Omega.{arith}
use Rattle.laws.proofs.Tests.{by_tests}
use Rattle.record_slot.proofs.Tests.{length-is}
use Rattle.record_slot.proofs.payload_length.Goals as goal

pub range-requires : goal.range-requires
range-requires c =
    let h = rw c.if-kind-eq-VARCHAR.true at c.requires in
    omega arith

pub returns-then-kind-eq-VARCHAR : goal.returns-then-kind-eq-VARCHAR
returns-then-kind-eq-VARCHAR c =
    rw (length-is c.range.ensures.0, c.if-kind-eq-VARCHAR.true)

pub returns : goal.returns
returns c =
    search by_tests
