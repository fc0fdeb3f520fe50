-- FORMAT 8.7. 01, "What must change shape": "a small row handle of length and layout is lent and changed by the set
-- calls". What such a call answers, what it leaves in the buffer, and what in the handle. 02, request 5: "On a read or
-- edit the row's own mark tells the sort".
use Rattle.error.specs.Result.{Result}
use Rattle.std.specs.Prelude.{ℕ, Bool, List, Err, Ok}
use Rattle.laws.specs.Bits.{bit_value}
use Rattle.error.specs.Answer.{Outcome}
use Rattle.row_layout.specs.declared.RowLayout.{RowLayout}
use Rattle.row_layout.specs.Layout.{size_in}
use Rattle.datatype.specs.Check.{layout_for, types_in}
use Rattle.row_format.specs.Header.{is_packed, sort_in}
use Rattle.row_edit.specs.Edit.{set_call, set_null_call}
use Rattle.row_handle.specs.declared.HandleLayout.{HandleLayout}
use Rattle.row_handle.specs.declared.RowHandle.{RowHandle}

-- of a layout, the geometry of packed rows or of padded ones, of the layout's sort; each mark is 1 or 0
abbrev pub geometry : RowLayout → Bool → HandleLayout
geometry l p =
    record {
      num_columns = l.num_columns;
      num_varlen_cols = l.num_varlen_cols;
      fixed_size = size_in l p;
      packed = bit_value p;
      is_long = bit_value l.is_long;
    }

-- the layout that a schema, a sort and the flag of the row give; the row is the buffer's first bytes
abbrev pub stored_layout : Bool → List ℕ → List ℕ → HandleLayout
stored_layout k schema buf = geometry (layout_for k (types_in schema)) (is_packed buf)

-- after an accepted call the new length and that layout, whatever came in; after a refusal the handle as it was
abbrev pub handle_after : HandleLayout → RowHandle → Result ℕ → RowHandle
handle_after l h (Ok n) = record { length = n; layout = l }
handle_after l h (Err e) = h

-- a call through a handle: the answer, the buffer and the handle after it
abbrev pub Handled : Type 0
Handled = Result ℕ × (List ℕ × RowHandle)

abbrev pub handled : Bool → List ℕ → RowHandle → Outcome → Handled
handled k schema h o = (o.0, (o.1, handle_after (stored_layout k schema o.1) h o.0))

-- each answers, and leaves the buffer, as the plain call on the buffer and the handle's length; the layout is of the
-- sort that the row's own mark tells
abbrev pub handle_set : List ℕ → List ℕ → RowHandle → ℕ → List ℕ → List ℕ → Handled
handle_set schema buf h i list area =
    handled (sort_in buf h.length) schema h (set_call schema buf h.length i list area)

abbrev pub handle_set_null : List ℕ → List ℕ → RowHandle → ℕ → Handled
handle_set_null schema buf h i = handled (sort_in buf h.length) schema h (set_null_call schema buf h.length i)
