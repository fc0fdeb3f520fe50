use borrow.Author.Rules.{rules}
use native.Mathlib.Omega.{arith}
use borrow.Author.Tests.{ne_eqb}
use mathlib.Core.Path.{ap, ◌∙◌}
use mir.Syntax.{w32, w64}
use Rattle.signed.proofs.Casts.{passed}
use Rattle.temporal.specs.Ranges.{is_date, is_time, is_timestamp}
use Rattle.record_slot.proofs.suits_at.Goals as goal

pub number_suits-requires : goal.number_suits-requires
number_suits-requires c =
    let h = rw c.in-6.is at c.requires.inside in (omega (arith, h), (c.requires.word, c.requires.digits c.in-6.is))

pub text_suits-requires : goal.text_suits-requires
text_suits-requires c = let h = rw c.in-8.is at c.requires.inside in omega arith

pub text_suits-requires-in-9 : goal.text_suits-requires-in-9
text_suits-requires-in-9 c = let h = rw c.in-9.is at c.requires.inside in omega arith

pub read_i32-requires : goal.read_i32-requires
read_i32-requires c = let h = rw c.in-10.is at c.requires.inside in omega arith

pub read_i64-requires : goal.read_i64-requires
read_i64-requires c = let h = rw c.in-11.is at c.requires.inside in omega arith

pub bits_suit-requires : goal.bits_suit-requires
bits_suit-requires c =
    let h = rw c.in-12.is at c.requires.inside in (omega (arith, h), c.requires.word)

pub read_i64-requires-in-13 : goal.read_i64-requires-in-13
read_i64-requires-in-13 c = let h = rw c.in-13.is at c.requires.inside in omega arith

pub returns-in-6 : goal.returns-in-6
returns-in-6 c = rw c.in-6.is c.number_suits.ensures

pub returns-in-7 : goal.returns-in-7
returns-in-7 c = rw c.in-7.is

pub returns-in-8 : goal.returns-in-8
returns-in-8 c = rw c.in-8.is c.text_suits.ensures

pub returns-in-9 : goal.returns-in-9
returns-in-9 c = rw c.in-9.is c.text_suits-in-9.ensures

pub returns-in-10 : goal.returns-in-10
returns-in-10 c = rw c.in-10.is (c.is_date.ensures ∙ ap is_date (passed w32 (search rules) c.read_i32.ensures))

pub returns-in-11 : goal.returns-in-11
returns-in-11 c = rw c.in-11.is (c.is_time.ensures ∙ ap is_time (passed w64 (search rules) c.read_i64.ensures))

pub returns-in-12 : goal.returns-in-12
returns-in-12 c = rw c.in-12.is c.bits_suit.ensures

pub returns-in-13 : goal.returns-in-13
returns-in-13 c = rw c.in-13.is (c.is_timestamp.ensures ∙ ap is_timestamp (passed w64 (search rules) c.read_i64-in-13.ensures))

pub returns-in_default : goal.returns-in_default
returns-in_default c =
    simp (ne_eqb _ 6 c.in_default.in_default-own.rest.0.0.0.0.0.0.0.1, ne_eqb _ 7 c.in_default.in_default-own.rest.0.0.0.0.0.0.1, ne_eqb _ 8 c.in_default.in_default-own.rest.0.0.0.0.0.1, ne_eqb _ 9 c.in_default.in_default-own.rest.0.0.0.0.1, ne_eqb _ 10 c.in_default.in_default-own.rest.0.0.0.1, ne_eqb _ 11 c.in_default.in_default-own.rest.0.0.1, ne_eqb _ 12 c.in_default.in_default-own.rest.0.1, ne_eqb _ 13 c.in_default.in_default-own.rest.1)
