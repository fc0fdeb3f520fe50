-- The worked cases of stored forms, by computation.
use mathlib.Core.Path.{refl}
use Rattle.row_format.specs.Table.{lay, range_end}
use Rattle.row_format.specs.Header.{is_long}
use Rattle.row_format.specs.Row.{header, row_with}
use Rattle.datatype.specs.Schema.{schema_of}
use Rattle.value_list.specs.Lists.{values_of}
use Rattle.numeric.specs.Decimal.{digits}
use Rattle.numeric.specs.Packed.{encode_bcd}
use Rattle.text.specs.Rfc3629.{octets}
use Rattle.worked.specs.Cases.{AllHold}
use Rattle.worked.specs.Stored.{moments, values}

pub stored-moments : AllHold moments
unfolding moments schema_of values_of row_with lay range_end header is_long
stored-moments = refl

pub stored-values : AllHold values
unfolding values schema_of values_of row_with lay range_end header is_long octets digits encode_bcd
stored-values = refl
