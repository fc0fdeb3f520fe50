-- The worked cases of reads, by computation.
use mathlib.Core.Path.{refl}
use Rattle.row_format.specs.Header.{is_long}
use Rattle.row_format.specs.Table.{range_end}
use Rattle.datatype.specs.Schema.{schema_of}
use Rattle.text.specs.Rfc3629.{octets}
use Rattle.worked.specs.Cases.{AllHold}
use Rattle.worked.specs.Reading.{table}

pub reading : AllHold table
unfolding table is_long range_end schema_of octets
reading = refl
