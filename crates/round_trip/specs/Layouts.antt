-- FORMAT 2.2, 3.1, 8.3. The layout of rows that were built; 02, request 3: "Both match value kind 9, share one layout".
use Rattle.std.specs.Prelude.{ℕ, ◌<◌, Bool, false, List, [], ◌∷◌, map, ◌≡◌, length, take}
use Rattle.row_format.specs.Places.{offset_width}
use Rattle.row_format.specs.Row.{packed_marks}
use Rattle.row_format.specs.Padded.{StartsAt}
use Rattle.row_format.specs.Written.{WrittenRow}
use Rattle.datatype.specs.declared.DataType.{DataType}
use Rattle.datatype.specs.declared.DataType.TheVariants.{Varchar}
use Rattle.datatype.specs.Types.{alignment_of, is_varlen, shape_of}
use Rattle.datatype.specs.Check.{type_at}
use Rattle.row_build.specs.Built.{Built}

-- a build that answered Ok: each part of its row stands where the layout says
abbrev pub BuiltWritten : {sort : Bool} {schema list area out : List ℕ} {n : ℕ} {after : List ℕ}
    (b : Built sort schema list area out n after) → Type 0
BuiltWritten {sort = sort} {n = n} {after = after} b =
    WrittenRow (offset_width sort) (packed_marks sort) (map shape_of b.columns) b.cells (take n after)

-- 01: "Padded [..] rounds each start up to its alignment": every fixed column of a schema, by its type
abbrev pub ColumnStarts : (ts : List DataType) (i : ℕ) → Type 0
ColumnStarts ts i =
    i < length ts → is_varlen (type_at ts i) ≡ false → StartsAt (map shape_of ts) i (alignment_of (type_at ts i))

-- columns of one type, or Varchars of any two lengths, in bytes or in code points
pub data Alike : DataType → DataType → Type 0 where
  same : (t : DataType) → Alike t t
  varchars : (p q : Bool) (m n : ℕ) → Alike (Varchar p m) (Varchar q n)

pub data AllAlike : List DataType → List DataType → Type 0 where
  none : AllAlike [] []
  more : {t u : DataType} {ts us : List DataType} → Alike t u → AllAlike ts us → AllAlike (t ∷ ts) (u ∷ us)

-- two builds of one value list and text area, under schemas whose columns are alike, make the same row
abbrev pub OneLayout : {sort : Bool} {schema list area out : List ℕ} {n : ℕ} {after : List ℕ}
    {schema' out' : List ℕ} {n' : ℕ} {after' : List ℕ}
    (b : Built sort schema list area out n after) (b' : Built sort schema' list area out' n' after') → Type 0
OneLayout {n = n} {after = after} {n' = n'} {after' = after'} b b' =
    AllAlike b.columns b'.columns → take n after ≡ take n' after'
