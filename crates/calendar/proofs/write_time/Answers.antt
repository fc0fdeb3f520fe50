use Rattle.calendar.proofs.Texts.{time-stored}
use Rattle.calendar.proofs.write_time.Goals as goal

pub returns : goal.returns
returns c =
    let a = c.args in
    time-stored a.out.now a.at a.seconds c.write_marked.ensures c.write_marked-2.ensures c.write_marked-3.ensures
