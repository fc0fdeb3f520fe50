use Rattle.value_list.proofs.Checking.{check_start, check_end, check_bad, check_more}
use Rattle.value_list.proofs.Sizes.{size-some, size_zero, size_is}
use Rattle.value_list.specs.InnerSizes.{size_at}
use Rattle.laws.proofs.Tests.{by_tests}
use mathlib.Core.Path.{sym, ◌∙◌}
use Rattle.value_list.proofs.check_values.Goals as goal

pub loop-at-init : goal.loop-at-init
loop-at-init c = let a = c.args in check_start a.is_long a.list.now a.columns a.area

pub returns-in_default : goal.returns-in_default
returns-in_default c =
    let z = size_zero (size_at c.args.list.now c.loop-at.at) (λ k e. c.in_default.not-Some k (c.record_size.ensures ∙ e)) in
    check_bad c.loop-at.invariant c.loop-at-test.true z

pub loop-at-preserved : goal.loop-at-preserved
loop-at-preserved c =
    let p = size_is (size_at c.args.list.now c.loop-at.at) (sym c.record_size.ensures ∙ c.in-Some.is) in
    let w = size-some c.args.list.now c.loop-at.at c.loop-at-test.true p.0 in
    rw (← p.1) (check_more c.loop-at.invariant c.loop-at-test.true w)

pub returns-then-count-columns : goal.returns-then-count-columns
returns-then-count-columns c = (search by_tests) ∙ check_end c.loop-at.invariant c.loop-at-test.false

pub returns-then-row_limit-area : goal.returns-then-row_limit-area
returns-then-row_limit-area c = rw (← c.row_limit.ensures.0) (search by_tests) ∙ check_end c.loop-at.invariant c.loop-at-test.false
