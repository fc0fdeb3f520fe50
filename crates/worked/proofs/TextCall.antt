-- The worked cases of the text call, by computation.
use mathlib.Core.Path.{refl}
use Rattle.row_format.specs.Header.{is_long}
use Rattle.row_format.specs.Table.{range_end}
use Rattle.datatype.specs.Schema.{schema_of}
use Rattle.text.specs.Rfc3629.{octets}
use Rattle.worked.specs.Cases.{AllHold}
use Rattle.worked.specs.TextCall.{table}

pub text_call_lem : AllHold table
unfolding table is_long range_end schema_of octets
text_call_lem = refl
