-- Demand 3, and 01, "Histories of edits": "Demand 3 is one claim about the whole list, not one for each call."
-- FORMAT 9.3, 9.4.
use Rattle.error.specs.Result.{Result}
use Rattle.std.specs.Prelude.{ℕ, ◌+◌, ◌<◌, ◌≤◌, Bool, true, List, [], ◌∷◌, map, ◌↔◌, ◌≡◌, length, get_or, replicate, Err, Ok, Some}
use Rattle.std.proofs.Math.Option.{none, some}
use Rattle.std.specs.Int.{w8}
use Rattle.std.proofs.Common.{Fits}
use Rattle.error.specs.declared.Refusal.{Refusal}
use Rattle.error.specs.declared.Refusal.TheVariants.{NoSuchColumn}
use Rattle.error.specs.Answer.{unchanged, placed_both}
use Rattle.row_format.specs.Places.{offset_width, minimum}
use Rattle.row_format.specs.Table.{Cell, payloads}
use Rattle.row_format.specs.Row.{varlen_cells}
use Rattle.row_format.specs.Edit.{edited_row}
use Rattle.row_format.specs.Zeroed.{zeroed_row}
use Rattle.datatype.specs.declared.DataType.{DataType}
use Rattle.datatype.specs.Types.{shape_of}
use Rattle.datatype.specs.Schema.{schema_of}
use Rattle.datatype.specs.Check.{type_at}
use Rattle.value_list.specs.Lists.{list_of}
use Rattle.row_sound.specs.Sound.{soundness}
use Rattle.row_build.specs.Build.{row_placed, cells_points, build_call, fresh_call}
use Rattle.row_edit.specs.Edit.{row_stored, given}
use Rattle.history.specs.History.{Call, set_value, set_null, State, row_of, called, run, answers}
use Rattle.history.specs.History.{Entry, sheet_by, texts, last_values, sheet_cells}

-- ---- a history on a schema with columns ts

-- a value list is a list of bytes
abbrev pub OfBytes : Call → Type 0
OfBytes (set_value i list area) = (k : ℕ) → Fits w8 (get_or list k 0)
OfBytes (set_null i) = Unit {0}

abbrev pub AllOfBytes : List Call → Type 0
AllOfBytes [] = Unit {0}
AllOfBytes (c ∷ cs) = OfBytes c × AllOfBytes cs

-- "A history starts where fresh answers 0": `out` is what fresh was lent, `start` what it left and handed back. "a
-- list of set and set null calls, refused ones included": any calls. 02, request 5: "The caller chooses short or long
-- when a row is made", here by `sort`; each call goes by the row's own mark.
pub record History (sort : Bool) (schema : List ℕ) (ts : List DataType) : Type 0 where
  pub columns : schema_of sort schema ≡ Ok ts
  pub out : List ℕ
  pub start : State
  pub fresh : fresh_call sort schema out ≡ (Ok start.row-length, start.buf)
  pub calls : List Call
  pub bytes : AllOfBytes calls

module _ {sort : Bool} {schema : List ℕ} {ts : List DataType} (h : History sort schema ts) where
  -- what it leaves: the buffer and the length; the row, as it is and "with the slots of null fixed columns set to
  -- zero"
  abbrev pub left : State
  left = run schema h.calls h.start

  abbrev pub row : List ℕ
  row = row_of left

  abbrev pub zeroed : List ℕ
  zeroed = zeroed_row (offset_width sort) (map shape_of ts) row

  -- what its calls answer
  abbrev pub replies : List (Result ℕ)
  replies = answers schema h.calls h.start

  -- the sheet, by the calls and those answers: "one entry a column, all null at first"; and "the same stored form, or
  -- null, in every column"
  abbrev pub sheet : List Entry
  sheet = sheet_by h.calls replies (replicate (length ts) none)

  abbrev pub cells : List Cell
  cells = sheet_cells ts sheet

  -- ---- No history ends in a row that refuses every edit: the row left is sound, so a set of a column that is there,
  -- with a value that passes 10, 11 and 12, is refused by nothing but 13 and 14 for the row it makes, and a set null
  -- of such a column by nothing. The other calls are refused by 9, or by what is wrong with the value. So no call of a
  -- history answers 1, 2, 15, or 14 for the row length.
  pub record Accepts : Type 0 where
    pub sound : soundness sort ts row ≡ Some true
    pub set : (i : ℕ) (list area b : List ℕ) → i < length ts → given sort (type_at ts i) i list area ≡ Ok b
        → called schema (set_value i list area) left
        ≡ row_placed sort left.buf (edited_row (offset_width sort) true (map shape_of ts) i (some b) row)
    pub bad_value : (i : ℕ) (list area : List ℕ) {e : Refusal} → i < length ts
        → given sort (type_at ts i) i list area ≡ Err e
        → called schema (set_value i list area) left ≡ unchanged left.buf e
    pub no_column : (i : ℕ) (list area : List ℕ) → length ts ≤ i
        → called schema (set_value i list area) left ≡ unchanged left.buf NoSuchColumn
    pub no_null : (i : ℕ) → length ts ≤ i
        → called schema (set_null i) left ≡ unchanged left.buf NoSuchColumn
    pub set-null : (i : ℕ) → i < length ts
        → called schema (set_null i) left
        ≡ row_stored left.buf (edited_row (offset_width sort) true (map shape_of ts) i none row)

-- ---- "For every history": the row zeroed "is the very row that the builder makes of the last accepted values"; 02,
-- request 5: "rows of one sort, which the builder makes too, with the last accepted texts of a long row in kinds 17, 18
-- and 19", whatever kinds the calls had: `list_of` writes the list for the sort. `placed_both` is 14 where there is no
-- room for it or for its counts, which are those of the sheet's stored forms; so "the builder refuses with nothing but
-- 14, for want of room; otherwise it writes the history's row". The length that was handed back is the row's, "the
-- layout's minimum plus the payload lengths of its non-null Varchar columns", and zeroing keeps it.
pub record Leaves {sort : Bool} {schema : List ℕ} {ts : List DataType} (h : History sort schema ts) : Type 0 where
  pub built : (o counts : List ℕ)
      → build_call sort schema (list_of sort (last_values 0 (sheet h))) (texts (sheet h)) o counts
      ≡ placed_both o counts (zeroed h) (cells_points ts (cells h))
  pub handed : (left h).row-length ≡ length (row h)
  pub long : length (row h)
      ≡ minimum (offset_width sort) true (map shape_of ts)
      + length (payloads (varlen_cells (map shape_of ts) (cells h)))
  pub same_length : length (zeroed h) ≡ length (row h)

-- ---- "For every two histories on one schema, the rows so zeroed are equal in length and in every byte exactly when
-- both leave the same stored form, or null, in every column." 02, request 5: "The comparison of two histories is about
-- rows of one sort".
abbrev pub Told : {sort : Bool} {schema : List ℕ} {ts : List DataType} (g h : History sort schema ts) → Type 0
Told g h = (zeroed g ≡ zeroed h) ↔ (cells g ≡ cells h)
