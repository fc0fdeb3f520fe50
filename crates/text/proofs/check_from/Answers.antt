-- `check_from` meets its contract. The first i bytes are count characters.
use mathlib.Core.Path.{sym, ◌∙◌}
use native.Mathlib.Omega.{arith}
use Rattle.text.proofs.Runs.{reached_lead, two_reached, two_less, stuck_low, four_reached, four_less, stuck, valid}
use borrow.Author.Rules.{rules}
use Rattle.text.proofs.check_from.Goals as goal
use Rattle.text.proofs.check_from.Goals.{then-is_high, else-is_high}

pub loop-i-init : goal.loop-i-init
loop-i-init c = reached_lead c.requires

pub overflow_add-count-then-is_high-2 : goal.overflow_add-count-then-is_high-2
overflow_add-count-then-is_high-2 c =
    let l = c.loop-i in
    let one = c.past_ones-one.ensures in
    let two = c.chars-twos.ensures in
    let k = four_reached _ l.invariant one two _ _ c.chars-threes.ensures c.chars-fours.ensures in
    search rules

pub returns-then-end-i : goal.returns-then-end-i
returns-then-end-i c =
    let l = c.loop-i in
    let one = c.past_ones-one.ensures in
    let two = c.chars-twos.ensures in
    elim c.if-is_high.branch [
      | then-is_high w ↦ stuck _ l.invariant one two _ _ w.chars-threes.ensures w.chars-fours.ensures
          (sym w.end-is ∙ c.if-end-i.true) (omega arith)
      | else-is_high w ↦ stuck_low _ l.invariant one two (sym c.is_high.ensures ∙ w.if-is_high.false)
          (sym w.end-is ∙ c.if-end-i.true) (omega arith)
    ]

pub loop-i-smaller : goal.loop-i-smaller
loop-i-smaller c =
    let l = c.loop-i in
    let one = c.past_ones-one.ensures in
    let two = c.chars-twos.ensures in
    elim c.if-is_high.branch [
      | then-is_high w ↦ rw w.end-is (four_less _ l.invariant one two _ _ w.chars-threes.ensures w.chars-fours.ensures
          (λ e. c.if-end-i.false (w.end-is ∙ e)))
      | else-is_high w ↦ rw w.end-is (two_less _ l.invariant one two (λ e. c.if-end-i.false (w.end-is ∙ e)))
    ]

pub loop-i-preserved : goal.loop-i-preserved
loop-i-preserved c =
    let l = c.loop-i in
    let one = c.past_ones-one.ensures in
    let two = c.chars-twos.ensures in
    elim c.if-is_high.branch [
      | then-is_high w ↦ rw (w.count-is, w.end-is) (four_reached _ l.invariant one two _ _ w.chars-threes.ensures w.chars-fours.ensures)
      | else-is_high w ↦ rw (w.count-is, w.end-is) (two_reached _ l.invariant one two)
    ]

pub returns : goal.returns
returns c = valid c.loop-i.invariant (omega arith)
