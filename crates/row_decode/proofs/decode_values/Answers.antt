use mathlib.Core.Path.{◌∙◌}
use Rattle.row_decode.proofs.Handing.{wanted-out}
use Rattle.row_decode.proofs.decode_values.Goals as goal

pub returns-in-0-to-14 : goal.returns-in-0-to-14
returns-in-0-to-14 c =
    let a = c.args in
    c.decode_in.ensures
    ∙ wanted-out c.requires.accepted a.packed a.row.now a.out.now a.counts.now _ a.wanted.now c.mark_wanted.ensures

pub returns-in-15-to-32 : goal.returns-in-15-to-32
returns-in-15-to-32 c =
    let a = c.args in
    c.decode_in-in-15-to-32.ensures
    ∙ wanted-out c.requires.accepted a.packed a.row.now a.out.now a.counts.now _ a.wanted.now c.mark_wanted.ensures

pub returns-in_default : goal.returns-in_default
returns-in_default c =
    let a = c.args in
    c.decode_in-in_default.ensures
    ∙ wanted-out c.requires.accepted a.packed a.row.now a.out.now a.counts.now _ a.wanted.now c.mark_wanted.ensures
