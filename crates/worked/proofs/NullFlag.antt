-- The worked cases of the null flag, by computation.
use mathlib.Core.Path.{refl}
use Rattle.row_format.specs.Header.{is_long}
use Rattle.worked.specs.Cases.{AllHold}
use Rattle.worked.specs.NullFlag.{table}

pub null-flag : AllHold table
unfolding table is_long
null-flag = refl
