use mathlib.Core.Bool.{true, false, cond}
use mathlib.Core.Path.{◌≡◌, refl, ◌∙◌}
use Rattle.std.specs.Result.{is_ok}
use Rattle.std.specs.Prelude.{Ok, Err}
use Rattle.error.specs.Result.{Result}
use Rattle.value.specs.declared.DataValue.{DataValue}
use Rattle.row_sound.specs.Sound.{reads}
use Rattle.row_sound.specs.InnerWalk.{walked_sound}
use Rattle.row_sound.proofs.column_sound.Goals as goal

told : (x : Result DataValue) → is_ok x ≡ cond (reads x) true false
told (Ok v) = refl
told (Err e) = refl

pub returns : goal.returns
unfolding walked_sound
returns c = rw (← c.read_column.ensures.0, c.requires.1) (c.is_ok.ensures.value ∙ told c.read_column.result)
