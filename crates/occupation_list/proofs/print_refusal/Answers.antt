use mathlib.Core.Path.{ap, ◌∙◌}
use native.Mathlib.Omega.{arith}
use Rattle.error.specs.Answer.{placed}
use Rattle.occupation_list.specs.InnerOrder.{numbers_line}
use Rattle.occupation_list.proofs.Decimals.{length-line, refusal-line}
use Rattle.occupation_list.proofs.Printing.{placed_not, placed-all}
use Rattle.occupation_list.proofs.print_refusal.Goals as goal

pub returns-then-out-length : goal.returns-then-out-length
returns-then-out-length c = let l = length-line c.number-number.result c.place-place.result in let a = c.decimal_length.ensures.0 in let b = c.decimal_length-2.ensures.0 in placed_not c.args.out.now (numbers_line c.number-number.result c.place-place.result) (omega arith) ∙ ap (placed c.args.out.now) (refusal-line c.args.e c.number-number.ensures c.place-place.ensures)

pub write_refusal-requires : goal.write_refusal-requires
write_refusal-requires c = let l = length-line c.number-number.result c.place-place.result in let a = c.decimal_length.ensures.0 in let b = c.decimal_length-2.ensures.0 in omega arith

pub returns : goal.returns
returns c = let l = length-line c.number-number.result c.place-place.result in let a = c.decimal_length.ensures.0 in let b = c.decimal_length-2.ensures.0 in placed-all c.args.out.now (numbers_line c.number-number.result c.place-place.result) (omega arith) (omega arith) c.write_refusal.ensures ∙ ap (placed c.args.out.now) (refusal-line c.args.e c.number-number.ensures c.place-place.ensures)
