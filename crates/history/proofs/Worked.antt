-- 01's example of a history, by computation.
use Prim.Native.Nat.{ℕ, zero, suc}
use mathlib.Core.List.{List, [], ◌∷◌}
use mathlib.Core.Path.{refl}
use native.Mathlib.Omega.{arith}
use Rattle.laws.proofs.Bytes.{Below, AllBytes}
use Rattle.text.specs.Rfc3629.{octets}
use Rattle.row_format.specs.Table.{lay, range_end}
use Rattle.row_format.specs.Header.{is_long, sort_in}
use Rattle.row_format.specs.Row.{header, row_with}
use Rattle.row_format.specs.Edit.{range_start, varlen_edit, edited_row}
use Rattle.datatype.specs.Schema.{schema_of}
use Rattle.value_list.specs.Lists.{values_of}
use Rattle.row_sound.specs.Sound.{sound_column}
use Rattle.history.specs.Demand.{AllOfBytes, History}
use Rattle.history.specs.Worked.{S, columns_s, lent, start, edits, Worked}
use mathlib.Core.Bool.{false}

-- numbers that are written out are bytes
pub written-bytes : (bs : List ℕ) → Below 256 bs → AllBytes bs
written-bytes [] b k = record { fits = omega arith }
written-bytes (x ∷ bs) b zero = record { fits = b.0 }
written-bytes (x ∷ bs) b (suc k) = written-bytes bs b.1 k

pub edits-bytes : AllOfBytes edits
edits-bytes = (
  written-bytes (2 ∷ 1 ∷ 0 ∷ 0 ∷ 0 ∷ []) (omega arith),
  (
    written-bytes (9 ∷ 0 ∷ 0 ∷ 6 ∷ 0 ∷ []) (omega arith),
    (tt, (written-bytes (9 ∷ 1 ∷ 0 ∷ 2 ∷ 0 ∷ []) (omega arith), tt)),
  ),
)

-- the example is a history
abbrev pub edits-history : History false S columns_s
unfolding schema_of row_with lay header
edits-history =
    record { columns = refl; out = lent; start = start; fresh = refl; calls = edits; bytes = edits-bytes }

pub worked : Worked
unfolding schema_of values_of row_with lay header range_end range_start varlen_edit edited_row sound_column octets is_long sort_in
worked =
    record {
      fresh = refl;
      history = edits-history;
      from_start = refl;
      these = refl;
      leaves = refl;
      answers-given = refl;
      on_sheet = refl;
      empty = refl;
      null = refl;
    }
