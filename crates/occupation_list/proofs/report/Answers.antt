use mathlib.Core.Path.{◌∙◌}
use Rattle.occupation_list.proofs.Printing.{printable, report-placed}
use Rattle.occupation_list.proofs.report.Goals as goal

pub print_rows-requires : goal.print_rows-requires
print_rows-requires c = printable c.args.list.now _ c.arrange.result c.arrange.ensures c.in-Ok.is

pub returns-in-Ok : goal.returns-in-Ok
returns-in-Ok c = c.print_rows.ensures ∙ report-placed c.args.list.now _ c.arrange.result c.arrange.ensures c.args.out.now c.in-Ok.is
