use native.Mathlib.Omega.{arith}
use borrow.Author.Rules.{rules}
use borrow.Author.Tests.{lt-ltb}
use lib.ListN.{length}
use Rattle.row_list.proofs.Checking.{check_start, check_end, check_full, check_cut, check_more}
use Rattle.row_list.proofs.check.Goals.{then-rows-most-via-then-rows-most, then-rows-most-via-else-rows-most+then-n-at-lt2}
use Rattle.row_list.proofs.check.Goals as goal

pub returns-then-n-gt-LIST_LIMIT : goal.returns-then-n-gt-LIST_LIMIT
returns-then-n-gt-LIST_LIMIT c = rw (lt-ltb 32768 (length c.args.list.now) (omega arith))

pub loop-at-init : goal.loop-at-init
loop-at-init c = check_start c.args.most c.args.list.now (omega arith)

pub returns-then-rows-most : goal.returns-then-rows-most
returns-then-rows-most c =
    elim c.then-rows-most.branch [
      | then-rows-most-via-then-rows-most w ↦ check_full c.loop-at.invariant c.loop-at-test.true (omega (arith, w.if-rows-most.true))
      | then-rows-most-via-else-rows-most+then-n-at-lt2 w ↦ check_cut c.loop-at.invariant c.loop-at-test.true (omega (arith, w.if-n-at-lt2.true))
    ]

pub returns-then-n-end : goal.returns-then-n-end
returns-then-n-end c = check_cut c.loop-at.invariant c.loop-at-test.true (search rules)

pub loop-at-preserved : goal.loop-at-preserved
loop-at-preserved c = rw c.row_end-end.ensures (check_more c.loop-at.invariant c.loop-at-test.true (λ e. omega (arith, e)) (search rules))

pub returns : goal.returns
returns c = check_end c.loop-at.invariant c.loop-at-test.false
