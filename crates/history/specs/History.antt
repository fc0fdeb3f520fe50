-- FORMAT 9.1, 9.2. Demand 3, and 01, "Histories of edits": lists of set and set null calls, refused ones included, from
-- a fresh row of a schema.
use Rattle.error.specs.Result.{Result}
use Rattle.std.specs.Prelude.{ℕ, ◌+◌, Bool, List, [], ◌∷◌, ◌++◌, length, get_or, set, take, Err, Ok}
use Rattle.std.proofs.Math.Option.{Option, none, some}
use Rattle.error.specs.Answer.{Outcome}
use Rattle.row_format.specs.Table.{Cell}
use Rattle.row_format.specs.Header.{sort_in}
use Rattle.datatype.specs.declared.DataType.{DataType}
use Rattle.value.specs.declared.DataValue.{DataValue}
use Rattle.value.specs.declared.DataValue.TheVariants as D
use Rattle.value.specs.Ranges.{text_of, moved}
use Rattle.value_list.specs.Lists.{Values, values_of}
use Rattle.stored_form.specs.Write.{stored_form}
use Rattle.row_edit.specs.Edit.{set_call, set_null_call}

-- ---- the calls

-- a set has "column, value list, text area"
pub data Call : Type 0 where
  set_value : ℕ → List ℕ → List ℕ → Call
  set_null : ℕ → Call

-- the buffer, and "the row length last handed back, by fresh or an accepted call"
pub record State : Type 0 where
  pub buf : List ℕ
  pub row-length : ℕ

-- "The row is the buffer's first bytes up to that length."
abbrev pub row_of : State → List ℕ
row_of s = take s.row-length s.buf

-- 02, request 5: "the row's own mark tells the sort"
abbrev pub sort_of : State → Bool
sort_of s = sort_in s.buf s.row-length

-- the call on the row and the length that the one before left
abbrev pub called : List ℕ → Call → State → Outcome
called schema (set_value i list area) s = set_call schema s.buf s.row-length i list area
called schema (set_null i) s = set_null_call schema s.buf s.row-length i

-- "accepted means answered 0"
abbrev pub handed_back : Result ℕ → ℕ → ℕ
handed_back (Ok m) n = m
handed_back (Err e) n = n

-- "each call gets the row and the length that the one before left"
abbrev pub next : Outcome → State → State
next o s = record { buf = o.1; row-length = handed_back o.0 s.row-length }

-- ---- the sheet: "one entry a column", null or "its value, with the bytes of its text range"

abbrev pub Entry : Type 0
Entry = Option (DataValue × List ℕ)

abbrev pub one_value : Values → DataValue
one_value (Ok vs) = get_or vs 0 D.Null
one_value (Err e) = D.Null

-- "An accepted set puts its value, with the bytes of its text range, in its column's entry. An accepted set null puts
-- null there. A refused call changes no entry."
abbrev pub noted : Result ℕ → Call → List Entry → List Entry
noted (Err e) c sheet = sheet
noted (Ok m) (set_value i list area) sheet =
    set sheet i (some (one_value (values_of list), text_of area (one_value (values_of list))))
noted (Ok m) (set_null i) sheet = set sheet i none

-- "fed the schema and each call's column, value list, text area and answer, never the row": the calls, with their
-- answers, put down on a sheet
abbrev pub sheet_by : List Call → List (Result ℕ) → List Entry → List Entry
sheet_by [] as' sheet = sheet
sheet_by (c ∷ cs) [] sheet = sheet
sheet_by (c ∷ cs) (a ∷ as') sheet = sheet_by cs as' (noted a c sheet)

-- ---- a whole history: what it leaves of buffer and length, and what its calls answer

abbrev pub run : List ℕ → List Call → State → State
run schema [] s = s
run schema (c ∷ cs) s = run schema cs (next (called schema c s) s)

abbrev pub answers : List ℕ → List Call → State → List (Result ℕ)
answers schema [] s = []
answers schema (c ∷ cs) s = (called schema c s).0 ∷ answers schema cs (next (called schema c s) s)

-- ---- "The last accepted values are the entries by rising column as one value list, the texts end to end in that
-- order in one text area, each range rewritten to match."

abbrev pub texts : List Entry → List ℕ
texts [] = []
texts (none ∷ es) = texts es
texts (some (v, x) ∷ es) = x ++ texts es

abbrev pub last_values : ℕ → List Entry → List DataValue
last_values at [] = []
last_values at (none ∷ es) = D.Null ∷ last_values at es
last_values at (some (v, x) ∷ es) = moved at (length x) v ∷ last_values (at + length x) es

-- ---- "the same stored form, or null, in every column"

abbrev pub entry_cell : DataType → Entry → Cell
entry_cell t none = none
entry_cell t (some (v, x)) = some (stored_form t v x)

abbrev pub sheet_cells : List DataType → List Entry → List Cell
sheet_cells [] es = []
sheet_cells (t ∷ ts) [] = []
sheet_cells (t ∷ ts) (e ∷ es) = entry_cell t e ∷ sheet_cells ts es
