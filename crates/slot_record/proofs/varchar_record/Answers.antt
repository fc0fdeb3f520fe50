use Rattle.text.specs.Check.{points}
use Rattle.text_limit.specs.Limit.{fits_text}
use Prim.Native.Nat.{◌-◌}
use lib.ListN.{take, drop}
use mathlib.Core.Path.{◌∙◌}
use Rattle.slot_record.proofs.Texts.{varchar-text}
use Rattle.slot_record.proofs.varchar_record.Goals as goal

pub returns : goal.returns
returns c =
    let a = c.args in
    let part = take (a.part.end - a.part.start) (drop a.part.start a.part.row.now) in
    c.text_record.ensures
    ∙ varchar-text a.part.is_long part a.out.now a.at a.i a.part.start (points part) (fits_text a.by_points a.n part)
