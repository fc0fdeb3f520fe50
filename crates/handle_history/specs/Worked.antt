-- FORMAT 8.7, 9.1. 01's example of a history, on S, through a handle of fresh's length whose layout is that of no row
-- of S.
use Rattle.std.specs.Prelude.{[], ◌∷◌, ◌≡◌, false}
use Rattle.history.specs.History.{set_null}
use Rattle.history.specs.Worked.{S, columns_s, start, edits, answered, row2}
use Rattle.row_handle.specs.declared.HandleLayout.{HandleLayout}
use Rattle.handle_history.specs.Runs.{HandleState, handle_run, HandleHistory, handle_start, handle_left, handle_replies}

abbrev pub packed_s : HandleLayout
packed_s = record { num_columns = 3; num_varlen_cols = 1; fixed_size = 6; packed = 1; is_long = 0 }

abbrev pub odd : HandleState
odd =
    record {
      buf = start.buf;
      handle =
          record {
            length = 13;
            layout = record { num_columns = 99; num_varlen_cols = 7; fixed_size = 1; packed = 0; is_long = 5 };
          };
    }

pub record Worked : Type 0 where
  -- the calls are a history through this handle: all that `HandleHistory` asks is met
  pub history : HandleHistory false S columns_s
  pub from-odd : handle_start history ≡ odd
  pub these : history.plain.calls ≡ edits
  pub leaves : handle_left history ≡ record { buf = row2.buf; handle = record { length = 15; layout = packed_s } }
  pub answers-given : handle_replies history ≡ answered
  -- refused with 9
  pub refused : handle_run S (set_null 3 ∷ []) odd ≡ odd
