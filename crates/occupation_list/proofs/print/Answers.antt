use mathlib.Core.Path.{◌∙◌}
use Rattle.occupation_list.proofs.Printing.{printable, print_placed}
use Rattle.occupation_list.proofs.print.Goals as goal

pub print_rows-requires : goal.print_rows-requires
print_rows-requires c = printable c.args.list.now _ c.arrange.result c.arrange.ensures c.in_ok-k.was

pub returns : goal.returns
returns c = c.print_rows.ensures ∙ print_placed c.args.list.now _ c.arrange.result c.arrange.ensures c.args.out.now c.in_ok-k.was
