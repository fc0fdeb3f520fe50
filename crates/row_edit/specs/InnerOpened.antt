-- For the proofs: what the inner functions hand on.
use Rattle.std.specs.Prelude.{ℕ, ◌≤◌, ◌<◌, Bool, List, ◌≡◌, length, take}
use Rattle.row_format.specs.Places.{offset_width, table_start}
use Rattle.row_format.specs.Table.{range_end}
use Rattle.row_format.specs.Edit.{range_start}
use Rattle.row_layout.specs.declared.RowLayout.{RowLayout}
use Rattle.datatype.specs.Check.{types_in}
use Rattle.datatype.specs.InnerCheck.{Accepted}
use Rattle.row_sound.specs.Sound.{SoundRow}

-- a schema that was accepted, and a sound row in the first n bytes that has column i
pub record Opened (s : List ℕ) (l : RowLayout) (p : Bool) (buf : List ℕ) (n i : ℕ) : Type 0 where
  pub accepted : Accepted s l
  pub inside : n ≤ length buf
  pub row : SoundRow l.is_long (types_in s) p (take n buf)
  pub column : i < length (types_in s)

-- where a Varchar's range stands
abbrev pub RangeAt : RowLayout → RowLayout → List ℕ → ℕ → ℕ → Type 0
RangeAt l b r a e =
    (a
    ≡ range_start (offset_width l.is_long) (table_start l.num_columns) l.num_varlen_cols
    b.num_varlen_cols r)
    × (e
    ≡ range_end (offset_width l.is_long) (table_start l.num_columns) l.num_varlen_cols
    b.num_varlen_cols r)
