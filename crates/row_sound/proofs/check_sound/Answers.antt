use Rattle.std.specs.Prelude.{None}
use mathlib.Core.Path.{sym, ◌∙◌}
use Rattle.row_format.specs.Places.{offset_width}
use Rattle.datatype.specs.Check.{types_in}
use Rattle.row_column.proofs.Framing.{framed, frame_refused, frame-good}
use Rattle.row_sound.specs.Sound.{sound_in}
use Rattle.row_sound.proofs.Walk.{soundness_walked}
use Rattle.row_sound.proofs.check_sound.Goals as goal

pub row_sound-requires : goal.row_sound-requires
row_sound-requires c = framed c.requires (sym c.check_frame.ensures ∙ c.in-Ok.is)

pub returns-in-Err : goal.returns-in-Err
returns-in-Err c =
    let a = c.args in
    frame_refused (types_in a.schema.now) a.row.now
    c.requires.layout
    (λ e. None) _ (sym c.check_frame.ensures ∙ c.in-Err.is)

pub returns-in-Ok : goal.returns-in-Ok
returns-in-Ok c =
    let a = c.args in
    let ts = types_in a.schema.now in
    let known = c.requires.layout in
    c.row_sound.ensures ∙ soundness_walked _ ts a.row.now known
    ∙ frame-good ts a.row.now known (λ e. None) (λ p. sound_in (offset_width a.layout.is_long) p ts a.row.now)
    (sym c.check_frame.ensures ∙ c.in-Ok.is)
