-- A history with both kinds of Varchars, by computation.
use mathlib.Core.List.{[], ◌∷◌}
use mathlib.Core.Path.{refl}
use native.Mathlib.Omega.{arith}
use lib.ListN.{replicate}
use Rattle.text.specs.Rfc3629.{octets}
use Rattle.row_format.specs.Table.{lay, range_end}
use Rattle.row_format.specs.Header.{is_long, sort_in}
use Rattle.row_format.specs.Row.{header, row_with}
use Rattle.row_format.specs.Edit.{range_start, varlen_edit, edited_row}
use Rattle.datatype.specs.Schema.{schema_of}
use Rattle.value_list.specs.Lists.{values_of}
use Rattle.row_sound.specs.Sound.{sound_column}
use Rattle.history.specs.Demand.{AllOfBytes, History}
use Rattle.history.specs.BothKinds.{schema, columns, edits, BothKinds}
use Rattle.history.proofs.Worked.{written-bytes}
use mathlib.Core.Bool.{false}

edits-bytes : AllOfBytes edits
edits-bytes = (
  written-bytes (9 ∷ 0 ∷ 0 ∷ 7 ∷ 0 ∷ []) (omega arith),
  (
    written-bytes (9 ∷ 0 ∷ 0 ∷ 7 ∷ 0 ∷ []) (omega arith),
    (
      written-bytes (9 ∷ 0 ∷ 0 ∷ 8 ∷ 0 ∷ []) (omega arith),
      (written-bytes (9 ∷ 0 ∷ 0 ∷ 2 ∷ 0 ∷ []) (omega arith), tt),
    ),
  ),
)

abbrev edits-history : History false schema columns
unfolding schema_of row_with lay header
edits-history =
    record {
      columns = refl;
      out = replicate 24 0xEE;
      start =
          record {
            buf = 3 ∷ 0 ∷ 2 ∷ 0x80 ∷ 7 ∷ 0 ∷ 0 ∷ 0 ∷ 0 ∷ 0 ∷ 0 ∷ 0 ∷ 0 ∷ replicate 11 0xEE;
            row-length = 13;
          };
      fresh = refl;
      calls = edits;
      bytes = edits-bytes;
    }

pub both_kinds : BothKinds
unfolding schema_of values_of row_with lay header range_end range_start varlen_edit edited_row sound_column octets is_long sort_in
both_kinds =
    record { history = edits-history; these = refl; answers-given = refl; leaves = refl; on_sheet = refl }
