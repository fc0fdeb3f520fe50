use Prim.Native.Nat.{◌+◌, ◌-◌, ◌/◌}
use mathlib.Core.Path.{sym, ◌∙◌}
use native.Mathlib.Omega.{arith}
use lib.ListN.{get_or}
use Rattle.occupation.specs.Order.{precedes}
use Rattle.occupation.specs.InnerFields.{fields_shown}
use Rattle.occupation_list.specs.InnerOrder.{occupation_at}
use Rattle.occupation_list.proofs.Insertion.{search_start, search_lower, search_higher}
use Rattle.occupation_list.proofs.Places.{stays_before, search_end}
use borrow.Author.Rules.{rules}
use Rattle.occupation_list.proofs.place_for.Goals as goal

pub loop-low-init : goal.loop-low-init
loop-low-init c = search_start (λ i. precedes (fields_shown c.args.row.now c.args.f) (occupation_at c.args.list.now (get_or c.args.order.now i 0))) c.args.k

pub overflow_cast-order : goal.overflow_cast-order
overflow_cast-order c = omega (arith, c.shared_slice_known-in-loop-low-1.given (c.loop-low.low + (c.loop-low.high - c.loop-low.low) / 2))

pub precedes_placed-requires : goal.precedes_placed-requires
precedes_placed-requires c = let w = c.loop-low.invariant.within in (c.requires.1, c.requires.0.places (c.loop-low.low + (c.loop-low.high - c.loop-low.low) / 2) (omega arith))

pub loop-low-preserved-then-precedes_placed : goal.loop-low-preserved-then-precedes_placed
loop-low-preserved-then-precedes_placed c = search_lower (stays_before c.requires.0 (fields_shown c.args.row.now c.args.f)) (c.loop-low.low + (c.loop-low.high - c.loop-low.low) / 2) c.loop-low.invariant (omega arith) (omega arith) (sym c.precedes_placed.ensures ∙ c.if-precedes_placed.true)

pub loop-low-preserved : goal.loop-low-preserved
loop-low-preserved c = search_higher (stays_before c.requires.0 (fields_shown c.args.row.now c.args.f)) (c.loop-low.low + (c.loop-low.high - c.loop-low.low) / 2) c.loop-low.invariant (omega arith) (omega arith) (sym c.precedes_placed.ensures ∙ c.if-precedes_placed.false)

pub returns : goal.returns
returns c = search_end (fields_shown c.args.row.now c.args.f) c.loop-low.invariant (search rules)
