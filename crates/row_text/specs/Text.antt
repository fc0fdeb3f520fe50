-- FORMAT 7.3. 01, "A further call (added) answers with a column's text".
use Rattle.value.specs.declared.TextRange.{TextRange}
use Rattle.value.specs.declared.DataValue.{DataValue}
use Rattle.std.specs.Prelude.{ℕ, ◌+◌, ◌≤◌, Bool, cond, List, [], leb, length, Err, Ok}
use Rattle.row_format.specs.Places.{offset_width}
use Rattle.row_format.specs.Header.{is_long}
use Rattle.error.specs.declared.Refusal.TheVariants.{NoSuchColumn, WrongKind}
use Rattle.error.specs.Result.{on_result, Result}
use Rattle.datatype.specs.declared.DataType.{DataType}
use Rattle.datatype.specs.Schema.{schema_of}
use Rattle.datatype.specs.Check.{type_at}
use Rattle.value.specs.Kinds.{holds_text}
use Rattle.value.specs.Ranges.{range_of, part}
use Rattle.row_column.specs.Frame.{frame_of, on_frame}
use Rattle.row_column.specs.Column.{column_value}

-- the range of a column that was read; a null's is empty and stands at 0
abbrev pub text_read : Result DataValue → Result TextRange
text_read (Ok v) = Ok (range_of v)
text_read (Err e) = Err e

-- "It refuses as a read of that column", of a row r that is taken as of sort k
abbrev pub text_in_row : Bool → List DataType → List ℕ → ℕ → Result TextRange
text_in_row k ts r i = on_frame (frame_of k ts r) Err (λ p. text_read (column_value (offset_width k) p ts i r))

-- "9 and 11 (not Char, Character or Varchar) come after 2"
abbrev pub text_of_column : Bool → List DataType → List ℕ → ℕ → Result TextRange
text_of_column k ts r i =
    cond (leb (length ts) i) (Err NoSuchColumn)
    (cond (holds_text (type_at ts i)) (text_in_row k ts r i) (Err (WrongKind i)))

-- 02, request 5: "On a read or edit the row's own mark tells the sort", also the sort by whose limit 2 is judged
abbrev pub text_call : List ℕ → List ℕ → ℕ → Result TextRange
text_call schema r i = on_result (schema_of (is_long r) schema) Err (λ ts. text_of_column (is_long r) ts r i)

-- "handed out as a part of the row"; "A null or a refusal gives the empty part"
abbrev pub text_part : List ℕ → Result TextRange → List ℕ
text_part r (Ok x) = part r x
text_part r (Err e) = []

-- a text lies in the row: what the call ensures besides, so that the part can be taken
abbrev pub PartIn : ℕ → Result TextRange → Type 0
PartIn n (Ok x) = x.start + x.length ≤ n
PartIn n (Err e) = Unit {0}
