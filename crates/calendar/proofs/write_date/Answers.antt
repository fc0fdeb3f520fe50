use borrow.Author.Rules.{rules}
use Rattle.calendar.proofs.Texts.{date-stored}
use Rattle.calendar.proofs.write_date.Goals as goal

pub returns : goal.returns
returns c =
    let a = c.args in
    date-stored a.out.now a.at a.date.year a.date.month a.date.day (search rules) c.write_pair.ensures c.write_pair-2.ensures c.write_marked.ensures c.write_marked-2.ensures
