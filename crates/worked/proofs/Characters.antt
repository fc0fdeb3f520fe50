-- The worked cases of 02, request 3, by computation.
use mathlib.Core.Path.{refl}
use Rattle.row_format.specs.Table.{lay, range_end}
use Rattle.row_format.specs.Row.{header, row_with}
use Rattle.row_format.specs.Header.{is_long, sort_in}
use Rattle.value_list.specs.Lists.{values_of}
use Rattle.datatype.specs.Schema.{schema_of}
use Rattle.text.specs.Rfc3629.{octets}
use Rattle.row_sound.specs.Sound.{sound_column}
use Rattle.worked.specs.Cases.{AllHold}
use Rattle.worked.specs.Characters.{table}

pub characters : AllHold table
unfolding table schema_of row_with lay range_end values_of header octets sound_column is_long sort_in
characters = refl
