use Rattle.row_sound.proofs.ByKind.{recorded-good}
use mathlib.Core.Path.{sym, ◌∙◌}
use Rattle.row_sound.proofs.record_sound.Goals as goal

pub column_sound-requires : goal.column_sound-requires
column_sound-requires c = rw (← c.record_at.ensures, c.in-Ok.is) at c.requires.1

pub returns-in-Err : goal.returns-in-Err
returns-in-Err c = absurd (recorded-good c.requires.0 (sym c.record_at.ensures ∙ c.in-Err.is))

pub returns-in-Ok : goal.returns-in-Ok
returns-in-Ok c = rw (← c.record_at.ensures, c.in-Ok.is) c.column_sound.ensures
