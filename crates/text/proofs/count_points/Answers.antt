-- `count_points` meets its contract. Of the bytes before i, `count` are tails.
use Prim.Native.Nat.{◌+◌}
use mathlib.Core.Path.{sym}
use lib.ListN.{length}
use Rattle.text.proofs.Counts.{tails_none, tails_le, tails_join, tails_all, tails_fit}
use Rattle.text.proofs.Points.{points-counted}
use borrow.Author.Rules.{rules}
use Rattle.text.proofs.count_points.Goals as goal

pub overflow_sub-result : goal.overflow_sub-result
overflow_sub-result c =
    let s = c.args.s.now in
    let h = tails_le s 0 (length s) in
    search rules

pub returns-then-n-lt8 : goal.returns-then-n-lt8
returns-then-n-lt8 c =
    rw c.tails.ensures (points-counted c.args.s.now c.requires)

pub loop-i-init : goal.loop-i-init
loop-i-init c = (search rules, sym (tails_none c.args.s.now 0))

pub overflow_add-count : goal.overflow_add-count
overflow_add-count c =
    let s = c.args.s.now in
    let l = c.loop-i in
    let e = tails_join s l.i 112 l.invariant.1 c.tails-count.ensures in
    let h = tails_le s 0 (l.i + 112) in
    search rules

pub loop-i-preserved : goal.loop-i-preserved
loop-i-preserved c =
    let s = c.args.s.now in
    let l = c.loop-i in
    (search rules, tails_join s l.i 112 l.invariant.1 c.tails-count.ensures)

pub overflow_add-result : goal.overflow_add-result
overflow_add-result c =
    let l = c.loop-i in
    let h = tails_fit c.args.s.now l.i l.invariant.1 c.tails-2.ensures l.invariant.0 in
    search rules

pub overflow_sub-result-2 : goal.overflow_sub-result-2
overflow_sub-result-2 c =
    let l = c.loop-i in
    let h = tails_fit c.args.s.now l.i l.invariant.1 c.tails-2.ensures l.invariant.0 in
    search rules

pub returns : goal.returns
returns c =
    let s = c.args.s.now in
    let l = c.loop-i in
    rw (tails_all s l.i l.invariant.1 c.tails-2.ensures l.invariant.0) (points-counted s c.requires)
