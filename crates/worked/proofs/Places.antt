-- The worked cases of sizes, alignments and starts, by computation.
use mathlib.Core.Path.{refl}
use Rattle.datatype.specs.Schema.{schema_of}
use Rattle.worked.specs.Cases.{AllHold, columns}
use Rattle.worked.specs.Places.{table}

pub places : AllHold table
unfolding table columns schema_of
places = refl
