-- A schema for both sorts of rows, and the mark of a built row.
use Rattle.std.specs.Prelude.{Err, Ok}
use Prim.Native.Nat.{ℕ}
use mathlib.Core.Path.{◌≡◌, refl, sym, ap, ◌∙◌}
use mathlib.Core.Bool.{Bool, true, false, cond}
use mathlib.Core.List.{List, map}
use native.Mathlib.Omega.{arith}
use borrow.Author.Tests.{le-ltb, ltb-false}
use lib.Dec.{ltb}
use lib.ListN.{length, length-map}
use Rattle.error.specs.Result.{Result}
use Rattle.error.specs.declared.Refusal.{Refusal}
use Rattle.error.specs.declared.Refusal.TheVariants.{BadSchema}
use Rattle.row_format.specs.declared.Shape.{Shape}
use Rattle.row_format.specs.Places.{minimum, offset_width, row_limit}
use Rattle.row_format.specs.Row.{slots_of}
use Rattle.row_format.specs.Header.{is_long}
use Rattle.row_format.proofs.Places.{varlens-le}
use Rattle.row_format.proofs.Header.{row-sort}
use Rattle.datatype.specs.declared.DataType.{DataType}
use Rattle.datatype.specs.Types.{shape_of}
use Rattle.datatype.specs.Schema.{schema_of}
use Rattle.datatype.specs.Check.{columns_of}
use Rattle.row_build.specs.Built.{Built}
use Rattle.row_build.proofs.Schemas.{schema-records, schema-few}
use Rattle.round_trip.specs.Sorts.{ShortIsLong, OfItsSort}

-- a schema says the same columns for whatever sorts it is good
pub same-columns : (j k : Bool) (s : List ℕ) {ts us : List DataType} → schema_of j s ≡ Ok ts → schema_of k s ≡ Ok us
    → ts ≡ us
same-columns j k s e f = ap columns_of (sym (schema-records j s e) ∙ schema-records k s f)

-- behind the test after the last record
passed : (t : Bool) (e : Refusal) (ts : List DataType) → ◌≡◌ {A = Result (List DataType)} (cond t (Err e) (Ok ts)) (Ok ts) → t ≡ false
passed true e ts p = let z : ◌≡◌ {A = ℕ} 0 1 = cc in absurd (omega arith)
passed false e ts p = refl

-- a table of at most 256 offsets grows by 512 bytes
pub short-is-long : (schema : List ℕ) → ShortIsLong schema
unfolding schema_of
short-is-long schema ts e =
    let ss : List Shape = map shape_of ts in
    let all = schema-records false schema e in
    let short = ltb-false (row_limit false) (minimum (offset_width false) false ss)
    (passed (ltb (row_limit false) (minimum (offset_width false) false ss)) (BadSchema (length schema)) ts (rw all at e)) in
    rw (
      all,
      le-ltb (row_limit true) (minimum (offset_width true) false ss)
          (omega (arith, short, varlens-le ss, length-map ts shape_of, schema-few false schema e)),
    )

pub built-sort : {sort : Bool} {schema list area out : List ℕ} {n : ℕ} {after : List ℕ}
    (b : Built sort schema list area out n after) → OfItsSort b
built-sort {sort} {schema} b =
    let ss : List Shape = map shape_of b.columns in
    ap is_long b.row
    ∙ row-sort sort ss b.cells (slots_of ss b.cells)
    (omega (arith, varlens-le ss, length-map b.columns shape_of, schema-few sort schema b.schema-good))
