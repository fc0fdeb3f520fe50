-- For the proofs: whether columns read, without the values, and the place that a walk over a schema has come to.
use Rattle.error.specs.Result.{Result}
use Rattle.value.specs.declared.DataValue.{DataValue}
use Rattle.std.specs.Prelude.{ℕ, ◌-◌, ◌≤◌, Bool, true, false, List, ◌≡◌, length, take, drop, Err, Ok}
use Rattle.row_layout.specs.declared.RowLayout.{RowLayout}
use Rattle.row_layout.specs.declared.VarlenRange.{VarlenRange}
use Rattle.row_layout.specs.InnerLayout.{Bounded}
use Rattle.row_sound.specs.InnerSlots.{range_holds}
use Rattle.datatype.specs.Schema.{column_records}
use Rattle.datatype.specs.Check.{types_in}
use Rattle.datatype.specs.InnerCheck.{layout_before}
use Rattle.value_list.specs.Lists.{Values}

-- whether the range of a Varchar reads: that of an offset 0 as null
abbrev pub range_reads : Bool → ℕ → List ℕ → VarlenRange → Bool
range_reads = range_holds true

-- the refusal of a column that does not read
abbrev pub refusal_in : Result DataValue → Result Bool
refusal_in (Ok v) = Ok true
refusal_in (Err e) = Err e

-- an answer if all columns read
abbrev pub read_all : Bool → Values → Result Bool
read_all answer (Ok vs) = Ok answer
read_all answer (Err e) = Err e

-- a place of a schema that was accepted, and the layout b of the columns before it
pub record WalkAt (s : List ℕ) (b : RowLayout) (at : ℕ) : Type 0 where
  pub bounded : Bounded b
  pub within : b.num_columns ≤ length (types_in s)
  pub so_far : b ≡ layout_before (types_in s) b.num_columns
  pub ahead : column_records (256 - b.num_columns) s at ≡ Ok (drop b.num_columns (types_in s))
