-- The worked cases of 01, by computation.
use mathlib.Core.Path.{refl}
use Rattle.row_format.specs.Table.{lay, range_end}
use Rattle.row_format.specs.Row.{header, row_with}
use Rattle.row_format.specs.Header.{is_long, sort_in}
use Rattle.row_format.specs.Edit.{range_start, varlen_edit, edited_row}
use Rattle.value_list.specs.Lists.{values_of}
use Rattle.row_sound.specs.Sound.{sound_column}
use Rattle.datatype.specs.Schema.{schema_of}
use Rattle.numeric.specs.Decimal.{digits}
use Rattle.numeric.specs.Packed.{encode_bcd}
use Rattle.text.specs.Rfc3629.{octets}
use Rattle.worked.specs.Cases.{AllHold, columns, S, row, table}

pub worked : AllHold table
unfolding table row S columns schema_of row_with lay range_end range_start varlen_edit edited_row values_of sound_column header octets digits encode_bcd is_long sort_in
worked = refl
