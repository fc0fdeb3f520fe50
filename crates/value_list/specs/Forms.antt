-- FORMAT 4.6. 02, request 5: "Value kinds 17, 18 and 19 are Char, Varchar and Bit with start and length of four bytes
-- each": lists of the same values in either form.
use Rattle.std.specs.Prelude.{ℕ, Bool, List, [], ◌∷◌, ◌++◌}
use Rattle.row_format.specs.Places.{offset_width}
use Rattle.value.specs.declared.DataValue.{DataValue}
use Rattle.value.specs.Ranges.{range_of}
use Rattle.value_list.specs.Records.{record_of, NarrowRange, Sized}

-- a list of the values vs, the range of each in the short or in the long form, whose numbers it fits
pub data ListOf : List DataValue → List ℕ → Type 0 where
  empty : ListOf [] []
  prepend : (long : Bool) (v : DataValue) {vs : List DataValue} {list : List ℕ} → Sized v
      → NarrowRange (offset_width long) (range_of v) → ListOf vs list → ListOf (v ∷ vs) (record_of long v ++ list)
