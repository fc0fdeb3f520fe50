-- 01, "Editing" and "Histories of edits": a column that was set reads as its new value, every other as before; texts
-- move, so they are compared by their bytes. FORMAT 8.4, 8.5.
use Rattle.error.specs.Result.{Result}
use Rattle.std.specs.Prelude.{ℕ, zero, suc, ◌+◌, ◌<◌, Bool, cond, List, [], map, ◌≡◌, length, Err, Ok}
use Rattle.row_format.specs.Places.{minimum}
use Rattle.row_format.specs.Table.{Cell}
use Rattle.datatype.specs.declared.DataType.{DataType}
use Rattle.datatype.specs.Types.{is_varlen, shape_of}
use Rattle.datatype.specs.Check.{type_at}
use Rattle.value.specs.declared.DataValue.{DataValue}
use Rattle.value.specs.declared.DataValue.TheVariants.{Null}
use Rattle.value.specs.Ranges.{range_of, text_of, moved}
use Rattle.stored_form.specs.Write.{stored_form}
use Rattle.stored_form.specs.ReadBack.{read_back, has_text}
use Rattle.row_column.specs.Column.{column_value}
use Rattle.row_sound.specs.Written.{Writes, null, form}

-- ---- what a column of a row holds, wherever its text stands: what is read, with its range at 0, and the range's bytes

abbrev pub Content : Type 0
Content = Result DataValue × List ℕ

abbrev pub content : List ℕ → Result DataValue → Content
content r (Ok v) = (Ok (moved 0 (range_of v).length v), text_of r v)
content r (Err e) = (Err e, [])

-- column j of a row r of columns ts, packed or padded, with offsets of w bytes
abbrev pub column_content : ℕ → Bool → List DataType → ℕ → List ℕ → Content
column_content w p ts j r = content r (column_value w p ts j r)

-- ---- what is put into a column: null, or a value whose text is x. It is stored, so a Char has its blanks and a Bit
-- no spare bits.

abbrev pub null_content : Content
null_content = (Ok Null, [])

abbrev pub value_content : DataType → DataValue → List ℕ → Content
value_content t v x = (Ok (read_back t 0 v x), cond (has_text v) (stored_form t v x) [])

-- what `Writes` puts there
abbrev pub written_content : {t : DataType} {c : Cell} → Writes t c → Content
written_content null = null_content
written_content {t} (form v area m a z) = value_content t v (text_of area v)

-- ---- the length of a row: "the layout's minimum plus the payload lengths of its non-null Varchar columns"

-- "a payload a Varchar's stored form"
abbrev pub payload_of : ℕ → Bool → List DataType → ℕ → List ℕ → List ℕ
payload_of w p ts j r = cond (is_varlen (type_at ts j)) (column_content w p ts j r).1 []

-- those of the first n columns; a null has none
abbrev pub payload_bytes : ℕ → Bool → List DataType → List ℕ → ℕ → ℕ
payload_bytes w p ts r zero = 0
payload_bytes w p ts r (suc n) = payload_bytes w p ts r n + length (payload_of w p ts n r)

abbrev pub length_in : ℕ → Bool → List DataType → List ℕ → ℕ
length_in w p ts r = minimum w p (map shape_of ts) + payload_bytes w p ts r (length ts)

-- ---- a row r, and what an edit of its column i leaves: the new content in that column, what was there before in
-- every other

pub record Reread (w : ℕ) (p : Bool) (ts : List DataType) (i : ℕ) (given : Content) (r after : List ℕ) : Type 0 where
  pub own : column_content w p ts i after ≡ given
  pub others : (j : ℕ) → j < length ts → (i ≡ j → ⊥) → column_content w p ts j after ≡ column_content w p ts j r
  pub long : length after ≡ length_in w p ts after
  pub change : length after + length (payload_of w p ts i r) ≡ length r + length (payload_of w p ts i after)
