-- The worked cases of 02, request 1, by computation.
use mathlib.Core.Path.{refl}
use Rattle.row_format.specs.Header.{is_long}
use Rattle.row_format.specs.Table.{lay, range_end}
use Rattle.row_format.specs.Row.{header, row_with}
use Rattle.value_list.specs.Lists.{values_of}
use Rattle.datatype.specs.Schema.{schema_of}
use Rattle.text.specs.Rfc3629.{octets}
use Rattle.worked.specs.Cases.{AllHold}
use Rattle.worked.specs.Widths.{table}

pub widths : AllHold table
unfolding table schema_of row_with lay is_long range_end values_of header octets
widths = refl
