use mathlib.Core.Path.{sym, ◌∙◌}
use Rattle.laws.proofs.Tests.{by_tests}
use Rattle.record_slot.proofs.record_length.Goals as goal

pub returns-then-values-from : goal.returns-then-values-from
returns-then-values-from c = search by_tests

pub returns-then-not-is_value_kind : goal.returns-then-not-is_value_kind
returns-then-not-is_value_kind c = rw (sym c.is_value_kind.ensures ∙ c.if-not-is_value_kind.true) (search by_tests)

pub returns-then-values-from-2 : goal.returns-then-values-from-2
returns-then-values-from-2 c = rw (← c.body_length-body.ensures.0, sym c.is_value_kind.ensures ∙ c.if-not-is_value_kind.false) (search by_tests)

pub returns : goal.returns
returns c = rw (← c.body_length-body.ensures.0, sym c.is_value_kind.ensures ∙ c.if-not-is_value_kind.false) (search by_tests)
