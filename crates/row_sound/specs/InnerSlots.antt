-- For the proofs: what the check of a column looks at. Soundness is told without the value that is read.
use Rattle.std.specs.Prelude.{ℕ, ◌-◌, ◌<◌, Bool, false, List, ◌≡◌, length, take, drop, Ok}
use Rattle.text_limit.specs.Limit.{fits_text}
use Rattle.row_layout.specs.declared.VarlenRange.{VarlenRange}
use Rattle.row_layout.specs.declared.VarlenRange.TheVariants as Range
use Rattle.datatype.specs.Schema.{column_record_at}
use Rattle.datatype.specs.InnerSteps.{type_in}

-- whether the range of a Varchar that is not marked null holds a text of its type; z for an offset of 0
abbrev pub range_holds : Bool → Bool → ℕ → List ℕ → VarlenRange → Bool
range_holds z byPoints n r Range.Null = z
range_holds z byPoints n r (Range.Bytes a e) = fits_text byPoints n (take (e - a) (drop a r))
range_holds z byPoints n r Range.Outside = false

-- whether it is sound: an offset of 0 says null
abbrev pub range_sound : Bool → ℕ → List ℕ → VarlenRange → Bool
range_sound = range_holds false

-- the record at a place of a schema that was accepted
pub record Recorded (s : List ℕ) (at : ℕ) : Type 0 where
  pub inside : at < length s
  pub next : ℕ
  pub is : column_record_at s at ≡ Ok ((type_in (column_record_at s at)), next)
