-- The worked cases of 02, request 4, by computation.
use mathlib.Core.Path.{refl}
use Rattle.text.specs.Rfc3629.{octets}
use Rattle.worked.specs.Cases.{AllHold}
use Rattle.worked.specs.Forms.{table}

pub forms : AllHold table
unfolding table octets
forms = refl
