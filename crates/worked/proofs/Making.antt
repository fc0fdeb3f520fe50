-- The worked cases of fresh and built rows, by computation.
use mathlib.Core.Path.{refl}
use Rattle.row_format.specs.Table.{lay}
use Rattle.row_format.specs.Row.{header, row_with}
use Rattle.datatype.specs.Schema.{schema_of}
use Rattle.value_list.specs.Lists.{values_of}
use Rattle.text.specs.Rfc3629.{octets}
use Rattle.worked.specs.Cases.{AllHold}
use Rattle.worked.specs.Making.{rows_of_nulls, rows_of_values}

pub rows_of_nulls_lem : AllHold rows_of_nulls
unfolding rows_of_nulls schema_of row_with lay header
rows_of_nulls_lem = refl

pub rows_of_values_lem : AllHold rows_of_values
unfolding rows_of_values schema_of values_of row_with lay header octets
rows_of_values_lem = refl
