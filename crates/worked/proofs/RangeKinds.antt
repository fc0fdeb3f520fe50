-- The worked cases of value kinds 17, 18 and 19, by computation.
use mathlib.Core.Path.{refl}
use Rattle.row_format.specs.Table.{lay, range_end}
use Rattle.row_format.specs.Header.{is_long, sort_in}
use Rattle.row_format.specs.Row.{header, row_with}
use Rattle.row_format.specs.Edit.{range_start, varlen_edit, edited_row}
use Rattle.datatype.specs.Schema.{schema_of}
use Rattle.value_list.specs.Lists.{values_of}
use Rattle.row_sound.specs.Sound.{sound_column}
use Rattle.text.specs.Rfc3629.{octets}
use Rattle.worked.specs.Cases.{AllHold}
use Rattle.worked.specs.RangeKinds.{table}

pub range_kinds : AllHold table
unfolding table schema_of values_of row_with lay header sound_column is_long sort_in range_end range_start varlen_edit edited_row octets
range_kinds = refl
