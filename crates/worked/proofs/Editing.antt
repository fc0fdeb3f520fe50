-- The worked cases of edits, by computation.
use mathlib.Core.Path.{refl}
use Rattle.row_format.specs.Table.{range_end}
use Rattle.row_format.specs.Header.{is_long, sort_in}
use Rattle.row_format.specs.Edit.{range_start, varlen_edit, edited_row}
use Rattle.datatype.specs.Schema.{schema_of}
use Rattle.datatype.specs.Check.{types_in}
use Rattle.value_list.specs.Lists.{values_of}
use Rattle.row_sound.specs.Sound.{sound_column}
use Rattle.text.specs.Rfc3629.{octets}
use Rattle.worked.specs.Cases.{AllHold}
use Rattle.worked.specs.Editing.{set_values, set_nulls}

pub set_values_lem : AllHold set_values
unfolding set_values schema_of types_in values_of sound_column is_long sort_in range_end range_start varlen_edit edited_row octets
set_values_lem = refl

pub set-nulls : AllHold set_nulls
unfolding set_nulls schema_of types_in sound_column is_long sort_in range_end range_start varlen_edit edited_row octets
set-nulls = refl
