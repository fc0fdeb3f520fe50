-- What a build that answers Ok has done, which lists build equal rows, and what a fresh row is built of.
-- FORMAT 8.2, 8.3.
use Rattle.std.specs.Prelude.{ℕ, ◌≤◌, Bool, List, [], map, ◌↔◌, ◌≡◌, length, take, replicate, Ok}
use Rattle.std.proofs.lemmas.List.Edits.{sets}
use Rattle.error.specs.Answer.{placed, placed_both}
use Rattle.row_format.specs.Places.{offset_width, row_limit}
use Rattle.row_format.specs.Table.{Cell}
use Rattle.row_format.specs.Row.{packed_marks, built_row}
use Rattle.datatype.specs.declared.DataType.{DataType}
use Rattle.datatype.specs.Types.{shape_of}
use Rattle.datatype.specs.Schema.{schema_of}
use Rattle.value.specs.declared.DataValue.{DataValue}
use Rattle.value_list.specs.Lists.{checked}
use Rattle.row_build.specs.Cells.{cells_from}
use Rattle.row_build.specs.Build.{cells_points, build_call, fresh_row, fresh_call}

-- a build of a row of a sort, from schema, list and text area into `out`, that answered Ok n and left `after` in the
-- output
pub record Built (k : Bool) (schema list area out : List ℕ) (n : ℕ) (after : List ℕ) : Type 0 where
  -- the schema's columns: neither 1 nor 2
  pub columns : List DataType
  pub schema-good : schema_of k schema ≡ Ok columns
  -- the list's values, one for each column: not 10
  pub given : List DataValue
  pub list-good : checked k (length columns) (length area) list ≡ Ok given
  -- null or a stored form for each column: neither 11 nor 12
  pub cells : List Cell
  pub cells-good : cells_from 0 columns given area ≡ Ok cells
  -- n is the length of their row, which passes neither the limit nor the output: neither 13 nor 14
  pub size : n ≡ length (built_row (offset_width k) (packed_marks k) (map shape_of columns) cells)
  pub short : n ≤ row_limit k
  pub room : n ≤ length out
  -- the row is put at the output's start, and is its first n bytes afterwards
  pub stored : after ≡ sets out 0 (built_row (offset_width k) (packed_marks k) (map shape_of columns) cells)
  pub row : take n after ≡ built_row (offset_width k) (packed_marks k) (map shape_of columns) cells

-- and left `numbers` in the list of counts: a number for each column, the code points of its stored text or 0
pub record CountsPut {k : Bool} {schema list area out : List ℕ} {n : ℕ} {after : List ℕ}
    (b : Built k schema list area out n after) (counts numbers : List ℕ) : Type 0 where
  pub many : length (cells_points b.columns b.cells) ≡ length b.columns
  pub enough : length b.columns ≤ length counts
  pub put : numbers ≡ sets counts 0 (cells_points b.columns b.cells)

-- every build that answers Ok
pub record DoneBuild (k : Bool) (schema list area out counts : List ℕ) (n : ℕ) (after numbers : List ℕ)
    : Type 0 where
  pub built : Built k schema list area out n after
  pub counted : CountsPut built counts numbers

abbrev pub DoneIsBuilt : (k : Bool) (schema list area out counts : List ℕ) → Type 0
DoneIsBuilt k schema list area out counts =
    (n : ℕ) (after numbers : List ℕ) → build_call k schema list area out counts ≡ (Ok n, (after, numbers))
    → DoneBuild k schema list area out counts n after numbers

-- Two builds of rows of one sort under one schema: their rows are equal exactly if every column has the same stored
-- form in both, or is null in both.
abbrev pub EqualRows : {k : Bool} {schema list area out : List ℕ} {n : ℕ} {after : List ℕ}
    {list' area' out' : List ℕ} {n' : ℕ} {after' : List ℕ}
    (b : Built k schema list area out n after) (b' : Built k schema list' area' out' n' after') → Type 0
EqualRows {n = n} {after = after} {n' = n'} {after' = after'} b b' =
    (take n after ≡ take n' after') ↔ (b.cells ≡ b'.cells)

-- a fresh row is built of as many nulls as there are columns, each a record of the one byte 0; building puts as many
-- zeros in the list of counts
pub record OfNulls (k : Bool) (schema out : List ℕ) (columns : List DataType) : Type 0 where
  pub fresh : fresh_call k schema out ≡ placed out (fresh_row k columns)
  pub built : (counts : List ℕ) → build_call k schema (replicate (length columns) 0) [] out counts
      ≡ placed_both out counts (fresh_row k columns) (replicate (length columns) 0)

abbrev pub FreshIsBuilt : (k : Bool) (schema out : List ℕ) → Type 0
FreshIsBuilt k schema out =
    (columns : List DataType) → schema_of k schema ≡ Ok columns → OfNulls k schema out columns
