-- FORMAT 3.9. 02, request 5: the two sorts of rows beside each other, under one schema.
use Rattle.std.specs.Prelude.{ℕ, Bool, true, false, List, ◌≡◌, get_or, Ok}
use Rattle.std.specs.Int.{w8}
use Rattle.std.proofs.Common.{Fits}
use Rattle.row_format.specs.Header.{is_long}
use Rattle.datatype.specs.declared.DataType.{DataType}
use Rattle.datatype.specs.Schema.{schema_of}
use Rattle.row_same.specs.Rows.{same_call}
use Rattle.row_build.specs.Built.{Built}
use Rattle.round_trip.specs.ReadBack.{row}

-- "2 [..] use the greater limit for the long sort": a schema that is good for short rows is good for long ones, with
-- the same columns
abbrev pub ShortIsLong : List ℕ → Type 0
ShortIsLong schema = (ts : List DataType) → schema_of false schema ≡ Ok ts → schema_of true schema ≡ Ok ts

-- "The caller chooses short or long when a row is made": the mark of a built row tells the sort it was built as
abbrev pub OfItsSort : {sort : Bool} {schema list area out : List ℕ} {n : ℕ} {after : List ℕ}
    (b : Built sort schema list area out n after) → Type 0
OfItsSort {sort = sort} b = is_long (row b) ≡ sort

-- "A long row [..] has four bytes for each offset; all else keeps its order": a short row and its long twin, built of
-- one value list and one text area, have the same content, either way round
module _ {schema list area out : List ℕ} {n : ℕ} {after : List ℕ} (b : Built false schema list area out n after)
    {out' : List ℕ} {n' : ℕ} {after' : List ℕ} (b' : Built true schema list area out' n' after') where
  pub record SameTwins : Type 0 where
    pub short_first : same_call schema (row b) (row b') ≡ Ok true
    pub long_first : same_call schema (row b') (row b) ≡ Ok true

  -- where the value list is a list of bytes
  abbrev pub Twins : Type 0
  Twins = ((k : ℕ) → Fits w8 (get_or list k 0)) → SameTwins
