-- FORMAT 7.1. 01, "What each call hands back", Read: "4, 3 (four bytes), 5, 6, 3 (minimum)".
use Rattle.error.specs.Result.{Result}
use Rattle.std.specs.Prelude.{ℕ, ◌%◌, Bool, cond, List, map, eqb, ltb, length, Err, Ok}
use Rattle.error.specs.declared.Refusal.{Refusal}
use Rattle.error.specs.declared.Refusal.TheVariants.{RowTooShort, RowTooLong, WrongColumnCount, WrongVarlenCount}
use Rattle.row_format.specs.Places.{varlens, minimum, offset_width, row_limit}
use Rattle.row_format.specs.Row.{least_mark}
use Rattle.row_format.specs.Header.{column_count, varlen_field, is_packed}
use Rattle.datatype.specs.declared.DataType.{DataType}
use Rattle.datatype.specs.Types.{shape_of}

-- A row that is taken as of sort k. "header's column count is not the schema's", which is n; "header's Varchar count,
-- flag masked off, is not the schema's", which is v; "row [..] under the layout's minimum", which is `least` of the
-- row's own flag. Both marks are masked off: "the row's own mark tells the sort" (02, request 5), so that a row taken
-- as short has the packed mark at most
abbrev pub frame_with : Bool → ℕ → ℕ → (Bool → ℕ) → List ℕ → Result Bool
frame_with k n v least r =
    cond (ltb (row_limit k) (length r)) (Err RowTooLong)
    (cond (ltb (length r) 4) (Err RowTooShort)
    (cond (eqb (column_count r) n)
    (cond (eqb (varlen_field r % least_mark k) v)
    (cond (ltb (length r) (least (is_packed r))) (Err RowTooShort) (Ok (is_packed r)))
    (Err WrongVarlenCount))
    (Err WrongColumnCount)))

-- columns of the types ts
abbrev pub frame_of : Bool → List DataType → List ℕ → Result Bool
frame_of k ts r =
    frame_with k (length ts) (varlens (map shape_of ts)) (λ p. minimum (offset_width k) p (map shape_of ts)) r

-- a call on a row: refused with its header, or gone on with the row's own flag
abbrev pub on_frame : {A : Type 0} → Result Bool → (Refusal → A) → (Bool → A) → A
on_frame (Ok p) bad k = k p
on_frame (Err e) bad k = bad e
