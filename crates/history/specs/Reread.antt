-- 01, "Read" and "Editing", for one set or set null that answers 0: a read of all columns gives the new value in its
-- column and what it gave before in every other, a text compared by the bytes of its range. FORMAT 8.4, 8.5.
use Rattle.std.specs.Prelude.{ℕ, ◌+◌, ◌<◌, Bool, true, List, map, ◌≡◌, length, drop, set, Ok}
use Rattle.error.specs.Answer.{placed_both}
use Rattle.row_format.specs.Places.{offset_width}
use Rattle.row_format.specs.Header.{is_long}
use Rattle.datatype.specs.declared.DataType.{DataType}
use Rattle.datatype.specs.Schema.{schema_of}
use Rattle.datatype.specs.Check.{type_at}
use Rattle.value.specs.declared.DataValue.{DataValue}
use Rattle.value.specs.Ranges.{text_of}
use Rattle.value_list.specs.Lists.{values_of, list_of}
use Rattle.stored_form.specs.Points.{points_in}
use Rattle.row_decode.specs.Read.{is_wanted, read_call}
use Rattle.row_sound.specs.Sound.{SoundRow}
use Rattle.row_sound.specs.Reread.{Content, content, null_content, value_content, payload_of, length_in}
use Rattle.history.specs.History.{Call, set_value, set_null, State, row_of, sort_of, one_value}

-- the column that a call names, and what it puts there
abbrev pub column_of : Call → ℕ
column_of (set_value i list area) = i
column_of (set_null i) = i

abbrev pub given_content : DataType → Call → Content
given_content t (set_value i list area) =
    value_content t (one_value (values_of list)) (text_of area (one_value (values_of list)))
given_content t (set_null i) = null_content

-- a read of all n columns of a row answers with the values vs, into any output, and with their counts, into any list:
-- "such a list whose text area is the row itself", for the row's own sort
pub record ReadsAll (schema : List ℕ) (n : ℕ) (row : List ℕ) (vs : List DataValue) : Type 0 where
  pub count : length vs ≡ n
  pub read : (wanted out counts : List ℕ) → ((i : ℕ) → i < n → is_wanted wanted i ≡ true)
      → read_call schema row wanted out counts
      ≡ placed_both out counts (list_of (is_long row) vs) (map (points_in row) vs)

-- what they are, wherever their texts stand
abbrev pub contents : List ℕ → List DataValue → List Content
contents row vs = map (λ (v : DataValue). content row (Ok v)) vs

-- a call on a row of a sort that got `old` and left `new`, a row of that sort
pub record Edits (schema : List ℕ) (c : Call) (old new : State) : Type 0 where
  pub sort : Bool
  pub old_sort : sort_of old ≡ sort
  pub new_sort : sort_of new ≡ sort
  pub columns : List DataType
  pub schema-good : schema_of sort schema ≡ Ok columns
  pub inside : column_of c < length columns
  pub old_values : List DataValue
  pub new_values : List DataValue
  pub old_read : ReadsAll schema (length columns) (row_of old) old_values
  pub new_read : ReadsAll schema (length columns) (row_of new) new_values
  pub changed : contents (row_of new) new_values
      ≡ set (contents (row_of old) old_values) (column_of c) (given_content (type_at columns (column_of c)) c)
  -- the row is sound as before, and its length "the layout's minimum plus the payload lengths of its non-null Varchar
  -- columns"
  pub packed : Bool
  pub old_sound : SoundRow sort columns packed (row_of old)
  pub new_sound : SoundRow sort columns packed (row_of new)
  pub handed : new.row-length ≡ length (row_of new)
  pub long : length (row_of new) ≡ length_in (offset_width sort) packed columns (row_of new)
  pub change : length (row_of new) + length (payload_of (offset_width sort) packed columns (column_of c) (row_of old))
      ≡ length (row_of old) + length (payload_of (offset_width sort) packed columns (column_of c) (row_of new))
  -- "After an edit, bytes past the new end are as before."
  pub behind : drop new.row-length new.buf ≡ drop new.row-length old.buf
