-- FORMAT 4.3. 01, "What each call hands back", 10: the values of a list's bytes, or the refusal.
use Rattle.std.specs.Prelude.{ℕ, zero, suc, Bool, cond, List, [], ◌∷◌, ◌++◌, eqb, ltb, length, Err, Ok}
use Rattle.error.specs.declared.Refusal.TheVariants.{BadValueList}
use Rattle.error.specs.Result.{Result, before}
use Rattle.row_format.specs.Places.{row_limit}
use Rattle.value.specs.declared.DataValue.{DataValue}
use Rattle.value_list.specs.Records.{record_at, record_of}

abbrev pub Values : Type 0
Values = Result (List DataValue)

abbrev pub on_record : Result (DataValue × ℕ) → (ℕ → Values) → Values
on_record (Ok (v, next)) rest = before v (rest next)
on_record (Err r) rest = Err r

-- at most n records from a place on. "The first bad value record decides the place of 10"
abbrev pub records : ℕ → List ℕ → ℕ → Values
records zero s at = Ok []
records (suc n) s at = cond (ltb at (length s)) (on_record (record_at s at) (records n s)) (Ok [])

-- all of them: a record has a byte or more
unfoldable pub values_of : List ℕ → Values
values_of s = records (length s) s 0

-- "then wrong record count (place: list length); then text area above 65,535 (place 0)", for n columns of rows of a
-- sort, whose limit is the text area's too
abbrev pub judged : Bool → ℕ → ℕ → ℕ → Values → Values
judged k n area len (Ok vs) =
    cond (eqb (length vs) n) (cond (ltb (row_limit k) area) (Err (BadValueList 0)) (Ok vs))
    (Err (BadValueList len))
judged k n area len (Err r) = Err r

abbrev pub checked : Bool → ℕ → ℕ → List ℕ → Values
checked k n area s = judged k n area (length s) (values_of s)

-- ---- a list written, for rows of a sort: records end to end

abbrev pub list_of : Bool → List DataValue → List ℕ
list_of k [] = []
list_of k (v ∷ vs) = record_of k v ++ list_of k vs
