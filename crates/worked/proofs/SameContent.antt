-- The worked cases of same content, by computation.
use mathlib.Core.Path.{refl}
use lib.Ieee.{eq, is_nan, of_fields, of_bits}
use Rattle.row_format.specs.Header.{is_long}
use Rattle.row_format.specs.Table.{range_end}
use Rattle.datatype.specs.Schema.{schema_of}
use Rattle.datatype.specs.Check.{types_in}
use Rattle.text.specs.Rfc3629.{octets}
use Rattle.worked.specs.Cases.{AllHold}
use Rattle.worked.specs.SameContent.{refusals, table}

pub same-refusals : AllHold refusals
unfolding refusals is_long range_end schema_of types_in octets
same-refusals = refl

pub same-content : AllHold table
unfolding table is_long range_end schema_of types_in octets eq is_nan of_fields of_bits
same-content = refl
