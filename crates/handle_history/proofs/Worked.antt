-- 01's example of a history through a handle, by computation.
use mathlib.Core.Path.{refl}
use mathlib.Core.Bool.{false}
use Rattle.text.specs.Rfc3629.{octets}
use Rattle.row_format.specs.Table.{lay, range_end}
use Rattle.row_format.specs.Header.{is_long, sort_in}
use Rattle.row_format.specs.Row.{header, row_with}
use Rattle.row_format.specs.Edit.{range_start, varlen_edit, edited_row}
use Rattle.datatype.specs.Schema.{schema_of}
use Rattle.datatype.specs.Check.{types_in}
use Rattle.value_list.specs.Lists.{values_of}
use Rattle.row_sound.specs.Sound.{sound_column}
use Rattle.history.specs.Demand.{History}
use Rattle.history.specs.Worked.{S, columns_s, lent, start, edits}
use Rattle.history.proofs.Worked.{edits-bytes}
use Rattle.handle_history.specs.Worked.{odd, Worked}

-- the history that the calls through the handle are
abbrev plain : History false S columns_s
unfolding schema_of row_with lay header
plain = record { columns = refl; out = lent; start = start; fresh = refl; calls = edits; bytes = edits-bytes }

pub worked : Worked
unfolding schema_of types_in values_of row_with lay header range_end range_start varlen_edit edited_row sound_column octets is_long sort_in
worked =
    record {
      history = record { plain = plain; handle = odd.handle; handed = refl };
      from-odd = refl;
      these = refl;
      leaves = refl;
      answers-given = refl;
      refused = refl;
    }
