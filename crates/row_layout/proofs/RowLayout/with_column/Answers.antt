use native.Mathlib.Omega.{arith}
use borrow.Author.Rules.{rules}
use Rattle.row_layout.proofs.RowLayout.with_column.Goals as goal

pub overflow_add-result-in-Fixed-2 : goal.overflow_add-result-in-Fixed-2
overflow_add-result-in-Fixed-2 c = let k = rw c.in-Fixed.is at c.requires.1.1 in omega arith

pub round_up-requires : goal.round_up-requires
round_up-requires c = let k = rw c.in-Fixed.is at c.requires.1.1 in omega arith

pub overflow_add-result-in-Fixed-3 : goal.overflow_add-result-in-Fixed-3
overflow_add-result-in-Fixed-3 c = let k = rw c.in-Fixed.is at c.requires.1.1 in omega arith

pub returns-in-Varlen : goal.returns-in-Varlen
returns-in-Varlen c = (rw c.in-Varlen.is, search rules)

pub returns-in-Fixed : goal.returns-in-Fixed
returns-in-Fixed c =
    let k = rw c.in-Fixed.is at c.requires.1.1 in
    (rw (c.in-Fixed.is, c.round_up.ensures.0), record { few = omega arith; ranked = omega arith; tight = omega arith; wide = omega arith })
