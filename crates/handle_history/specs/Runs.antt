-- FORMAT 8.7, 9.1. 01, "Histories of edits", through a handle: lists of set and set null calls on one buffer and one
-- handle, each as the one before left them.
use Rattle.error.specs.Result.{Result}
use Rattle.std.specs.Prelude.{ℕ, Bool, true, false, cond, List, [], ◌∷◌, map, ◌↔◌, ◌≡◌, length, replicate, Err, Ok}
use Rattle.std.proofs.Math.Option.{none}
use Rattle.error.specs.Answer.{placed_both}
use Rattle.row_format.specs.Places.{offset_width}
use Rattle.row_format.specs.Table.{Cell}
use Rattle.row_format.specs.Zeroed.{zeroed_row}
use Rattle.datatype.specs.declared.DataType.{DataType}
use Rattle.datatype.specs.Types.{shape_of}
use Rattle.datatype.specs.Check.{layout_for}
use Rattle.value_list.specs.Lists.{list_of}
use Rattle.row_build.specs.Build.{cells_points, build_call}
use Rattle.history.specs.History.{Call, set_value, set_null, State, row_of, Entry, sheet_by, texts, last_values, sheet_cells}
use Rattle.history.specs.Demand.{History, left, replies}
use Rattle.row_handle.specs.declared.RowHandle.{RowHandle}
use Rattle.row_handle.specs.Handle.{geometry, Handled, handle_set, handle_set_null}

-- the buffer, and the handle lent beside it
pub record HandleState : Type 0 where
  pub buf : List ℕ
  pub handle : RowHandle

abbrev pub state_of : HandleState → State
state_of s = record { buf = s.buf; row-length = s.handle.length }

abbrev pub handle_called : List ℕ → Call → HandleState → Handled
handle_called schema (set_value i list area) s = handle_set schema s.buf s.handle i list area
handle_called schema (set_null i) s = handle_set_null schema s.buf s.handle i

abbrev pub handle_next : Handled → HandleState
handle_next o = record { buf = o.1.0; handle = o.1.1 }

-- what a list of calls leaves, and what the calls answer
abbrev pub handle_run : List ℕ → List Call → HandleState → HandleState
handle_run schema [] s = s
handle_run schema (c ∷ cs) s = handle_run schema cs (handle_next (handle_called schema c s))

abbrev pub handle_answers : List ℕ → List Call → HandleState → List (Result ℕ)
handle_answers schema [] s = []
handle_answers schema (c ∷ cs) s =
    (handle_called schema c s).0 ∷ handle_answers schema cs (handle_next (handle_called schema c s))

-- whether a call was accepted
abbrev pub some_done : List (Result ℕ) → Bool
some_done [] = false
some_done (Ok m ∷ as') = true
some_done (Err e ∷ as') = some_done as'

-- ---- a history through a handle: any handle that has the length which fresh handed back, whatever its layout says

pub record HandleHistory (sort : Bool) (schema : List ℕ) (ts : List DataType) : Type 0 where
  pub plain : History sort schema ts
  pub handle : RowHandle
  pub handed : handle.length ≡ plain.start.row-length

module _ {sort : Bool} {schema : List ℕ} {ts : List DataType} (g : HandleHistory sort schema ts) where
  abbrev pub handle_start : HandleState
  handle_start = record { buf = g.plain.start.buf; handle = g.handle }

  abbrev pub handle_left : HandleState
  handle_left = handle_run schema g.plain.calls handle_start

  abbrev pub handle_replies : List (Result ℕ)
  handle_replies = handle_answers schema g.plain.calls handle_start

  abbrev pub handle_zeroed : List ℕ
  handle_zeroed = zeroed_row (offset_width sort) (map shape_of ts) (row_of (state_of handle_left))

  abbrev pub handle_sheet : List Entry
  handle_sheet = sheet_by g.plain.calls handle_replies (replicate (length ts) none)

  abbrev pub handle_cells : List Cell
  handle_cells = sheet_cells ts handle_sheet

-- Its answers, its buffer, and the handle's length are those of the plain calls; its row, zeroed, is the very row that
-- the builder makes of the last accepted values; and from the first accepted call on the handle has the layout of the
-- packed rows of the schema, of the sort that fresh was asked for.
pub record Carries {sort : Bool} {schema : List ℕ} {ts : List DataType} (g : HandleHistory sort schema ts)
    : Type 0 where
  pub answered : handle_replies g ≡ replies g.plain
  pub state : state_of (handle_left g) ≡ left g.plain
  pub built : (o counts : List ℕ)
      → build_call sort schema (list_of sort (last_values 0 (handle_sheet g))) (texts (handle_sheet g)) o counts
      ≡ placed_both o counts (handle_zeroed g) (cells_points ts (handle_cells g))
  pub layout : (handle_left g).handle.layout
      ≡ cond (some_done (handle_replies g)) (geometry (layout_for sort ts) true) g.handle.layout

-- "exactly when both leave the same stored form, or null, in every column"
abbrev pub HandlesTold : {sort : Bool} {schema : List ℕ} {ts : List DataType}
    (g h : HandleHistory sort schema ts) → Type 0
HandlesTold g h = (handle_zeroed g ≡ handle_zeroed h) ↔ (handle_cells g ≡ handle_cells h)
