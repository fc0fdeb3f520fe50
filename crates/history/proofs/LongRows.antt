-- A history of long rows, by computation.
use mathlib.Core.Bool.{true}
use mathlib.Core.List.{[], ◌∷◌}
use mathlib.Core.Path.{refl}
use native.Mathlib.Omega.{arith}
use lib.ListN.{replicate}
use Rattle.text.specs.Rfc3629.{octets}
use Rattle.row_format.specs.Table.{lay, range_end}
use Rattle.row_format.specs.Header.{is_long, sort_in}
use Rattle.row_format.specs.Row.{header, row_with}
use Rattle.row_format.specs.Edit.{range_start, varlen_edit, edited_row}
use Rattle.datatype.specs.Schema.{schema_of}
use Rattle.value_list.specs.Lists.{values_of}
use Rattle.row_sound.specs.Sound.{sound_column}
use Rattle.history.specs.Demand.{AllOfBytes, History}
use Rattle.history.specs.Worked.{S, columns_s}
use Rattle.history.specs.LongRows.{edits, LongRows}
use Rattle.history.proofs.Worked.{written-bytes}

edits-bytes : AllOfBytes edits
edits-bytes = (
  written-bytes (2 ∷ 1 ∷ 0 ∷ 0 ∷ 0 ∷ []) (omega arith),
  (
    written-bytes (9 ∷ 1 ∷ 0 ∷ 2 ∷ 0 ∷ []) (omega arith),
    (
      written-bytes (0x12 ∷ replicate 8 0xFF) (omega arith),
      (written-bytes (0x12 ∷ replicate 8 0) (omega arith), tt),
    ),
  ),
)

abbrev edits-history : History true S columns_s
unfolding schema_of row_with lay header
edits-history =
    record {
      columns = refl;
      out = replicate 18 0xEE;
      start =
          record {
            buf = 3 ∷ 0 ∷ 1 ∷ 0xC0 ∷ 7 ∷ 0 ∷ 0 ∷ 0 ∷ 0 ∷ 0 ∷ 0 ∷ 0 ∷ 0 ∷ 0 ∷ 0 ∷ 0xEE ∷ 0xEE ∷ 0xEE ∷ [];
            row-length = 15;
          };
      fresh = refl;
      calls = edits;
      bytes = edits-bytes;
    }

pub long-rows : LongRows
unfolding schema_of values_of row_with lay header range_end range_start varlen_edit edited_row sound_column octets is_long sort_in
long-rows =
    record { history = edits-history; these = refl; answers-given = refl; leaves = refl; listed = refl; spelt = refl }
