-- For the proofs: what the check of a schema hands back, and what keeps sums over a layout from wrapping.
use Rattle.error.specs.Result.{Result}
use Rattle.std.specs.Prelude.{ℕ, ◌≤◌, Bool, false, cond, List, ◌≡◌, ltb, take, Err, Ok}
use Rattle.error.specs.declared.Refusal.TheVariants.{BadSchema}
use Rattle.row_format.specs.Places.{row_limit}
use Rattle.row_layout.specs.declared.RowLayout.{RowLayout}
use Rattle.row_layout.specs.InnerLayout.{Bounded, minimum_of}
use Rattle.datatype.specs.declared.DataType.{DataType}
use Rattle.datatype.specs.Schema.{Parsed, column_records}
use Rattle.datatype.specs.Check.{layout_for, types_in}

-- the layout of its columns, for rows of a sort, or the refusal
abbrev pub checked_schema : Bool → Parsed → Result RowLayout
checked_schema k (Ok ts) = Ok (layout_for k ts)
checked_schema k (Err r) = Err r

-- the layout of the columns before column i
abbrev pub layout_before : List DataType → ℕ → RowLayout
layout_before ts i = layout_for false (take i ts)

-- ---- the test after the last record, and what keeps sums over a layout from wrapping

abbrev pub finished : ℕ → RowLayout → Result RowLayout
finished len l = cond (ltb (row_limit l.is_long) (minimum_of l false)) (Err (BadSchema len)) (Ok l)

pub record Limited (l : RowLayout) : Type 0 where
  pub bounded : Bounded l
  pub small : minimum_of l false ≤ row_limit l.is_long

abbrev pub BoundedIn : Result RowLayout → Type 0
BoundedIn (Ok l) = Limited l
BoundedIn (Err r) = Unit {0}

-- a schema that was accepted, with its layout
pub record Accepted (s : List ℕ) (l : RowLayout) : Type 0 where
  pub schema : column_records 256 s 0 ≡ Ok (types_in s)
  pub layout : layout_for l.is_long (types_in s) ≡ l
  pub bounded : Bounded l
