-- A run of calls through a handle against the run of the plain calls, and the handle's layout after it.
use Rattle.std.specs.Prelude.{Err, Ok}
use Prim.Native.Nat.{ℕ}
use mathlib.Core.Bool.{Bool, true, cond}
use mathlib.Core.List.{List, [], ◌∷◌, map}
use mathlib.Core.Option.{none, some}
use mathlib.Core.Path.{◌≡◌, refl, sym, ap, ◌∙◌, subst}
use native.Mathlib.Omega.{arith}
use lib.ListN.{length, replicate}
use lib.Seq.{sets, length-take-le}
use Rattle.error.specs.declared.Refusal.{Refusal}
use Rattle.error.specs.Answer.{Outcome}
use Rattle.error.specs.Result.{on_result, Result}
use Rattle.row_format.specs.Places.{offset_width}
use Rattle.row_format.specs.Zeroed.{zeroed_row}
use Rattle.datatype.specs.declared.DataType.{DataType}
use Rattle.datatype.specs.Types.{shape_of}
use Rattle.datatype.specs.Schema.{Parsed}
use Rattle.datatype.specs.Check.{type_at, types_in}
use Rattle.datatype.proofs.Accept.{on_good}
use Rattle.datatype.specs.InnerCheck.{checked_schema}
use Rattle.row_format.specs.Header.{is_packed}
use Rattle.row_sound.proofs.Rows.{told-row, null-short}
use Rattle.row_edit.specs.Edit.{given, edited}
use Rattle.row_edit.specs.Marks.{SameMarks}
use Rattle.row_edit.proofs.Marks.{edit_marks}
use Rattle.history.specs.History.{Call, set_value, set_null, State, row_of, sort_of, called, handed_back, next, run, answers}
use Rattle.history.specs.History.{sheet_by}
use Rattle.history.specs.Demand.{left, replies, sheet, zeroed}
use Rattle.history.proofs.Calls.{opened_ends, Ends, refusal, written, tested_ends, placed_ends}
use Rattle.history.proofs.Histories.{history, histories, fresh-sort}
use Rattle.history.proofs.Accepts.{accepts}
use Rattle.row_handle.specs.declared.HandleLayout.{HandleLayout}
use Rattle.row_handle.specs.declared.RowHandle.{RowHandle}
use Rattle.row_handle.specs.Handle.{stored_layout, handle_after, Handled, handled}
use Rattle.handle_history.specs.Runs.{HandleState, state_of, handle_called, handle_next, handle_run, handle_answers}
use Rattle.handle_history.specs.Runs.{some_done, HandleHistory, handle_start, handle_left, handle_replies}
use Rattle.handle_history.specs.Runs.{handle_zeroed, handle_sheet, Carries, HandlesTold}
use Rattle.handle_history.proofs.Flag.{flag-row}
use Rattle.handle_history.specs.InnerRuns.{Laid}

abbrev IsRefused : Result ℕ → Type 0
IsRefused (Ok m) = ⊥
IsRefused (Err e) = Unit {0}

module _ (schema : List ℕ) where
  -- ---- from any handle: one call

  length-after : (l : HandleLayout) (h : RowHandle) (a : Result ℕ) → (handle_after l h a).length ≡ handed_back a h.length
  length-after l h (Ok m) = refl
  length-after l h (Err e) = refl

  -- a call through a handle is the plain call on the buffer and the handle's length
  step : (c : Call) (s : HandleState) → handle_called schema c s ≡ handled (sort_of (state_of s)) schema s.handle (called schema c (state_of s))
  step (set_value i list area) s = refl
  step (set_null i) s = refl

  step_answer : (c : Call) (s : HandleState) → (handle_called schema c s).0 ≡ (called schema c (state_of s)).0
  step_answer c s = ap (λ (x : Handled). x.0) (step c s)

  step_state : (c : Call) (s : HandleState) → state_of (handle_next (handle_called schema c s)) ≡ next (called schema c (state_of s)) (state_of s)
  step_state c s =
      let o : Outcome = called schema c (state_of s) in
      ap (λ (x : Handled). state_of (handle_next x)) (step c s) ∙ ap (λ (n : ℕ). record { buf = o.1; row-length = n }) (length-after (stored_layout (sort_of (state_of s)) schema o.1) s.handle o.0)

  -- ---- a list of calls

  pub run-state : (cs : List Call) (s : HandleState) → state_of (handle_run schema cs s) ≡ run schema cs (state_of s)
  run-state [] s = refl
  run-state (c ∷ cs) s = run-state cs (handle_next (handle_called schema c s)) ∙ ap (run schema cs) (step_state c s)

  pub run-answers : (cs : List Call) (s : HandleState) → handle_answers schema cs s ≡ answers schema cs (state_of s)
  run-answers [] s = refl
  run-answers (c ∷ cs) s =
      ap (λ (a : Result ℕ). a ∷ handle_answers schema cs (handle_next (handle_called schema c s))) (step_answer c s)
      ∙ ap (λ (as' : List (Result ℕ)). (called schema c (state_of s)).0 ∷ as') (run-answers cs (handle_next (handle_called schema c s)) ∙ ap (answers schema cs) (step_state c s))

  -- ---- the layout

  -- how each call ends, whatever it is called with: a row that it wrote has the marks of the old one
  abbrev Marked : State → List ℕ → Type 0
  Marked s r = SameMarks s.buf s.row-length (sets s.buf 0 r) (length r)

  ends : (c : Call) (s : State) → Ends s.buf (Marked s) (called schema c s)
  ends (set_value i list area) s =
      let k = sort_of s in
      opened_ends k schema s.row-length i _
      λ ts p e room sound h. tested_ends (given k (type_at ts i) i list area) _
      λ b g. placed_ends k (edited (offset_width k) ts p s.buf s.row-length i (some b))
      λ short fits. edit_marks s.buf s.row-length room sound i h (some b) fits
  ends (set_null i) s =
      let k = sort_of s in
      opened_ends k schema s.row-length i _
      λ ts p e room sound h. written (edited (offset_width k) ts p s.buf s.row-length i none) refl
      (edit_marks s.buf s.row-length room sound i h none (omega (arith, null-short sound i h, length-take-le s.row-length s.buf room)))

  -- so the sort stays
  sort-kept : (s : State) (o : Outcome) → Ends s.buf (Marked s) o → sort_of (next o s) ≡ sort_of s
  sort-kept s o (refusal e q) = ap (λ (x : Outcome). sort_of (next x s)) q
  sort-kept s o (written r q m) = ap (λ (x : Outcome). sort_of (next x s)) q ∙ m.sort

  sort-next : (c : Call) (s : HandleState) → sort_of (state_of (handle_next (handle_called schema c s))) ≡ sort_of (state_of s)
  sort-next c s = ap sort_of (step_state c s) ∙ sort-kept (state_of s) (called schema c (state_of s)) (ends c (state_of s))

  -- a refused call leaves buffer and handle as they were
  refused_of_lem : (k : Bool) (s : HandleState) (o : Outcome) → Ends s.buf (Marked (state_of s)) o → {e : Refusal} → o.0 ≡ Err e → handle_next (handled k schema s.handle o) ≡ s
  refused_of_lem k s o (refusal b q) f = subst (λ (x : Outcome). handle_next (handled k schema s.handle x) ≡ s) (sym q) refl
  refused_of_lem k s o (written r q u) f = absurd (subst IsRefused (sym f ∙ ap (λ (x : Outcome). x.0) q) tt)

  pub refused-same : (c : Call) (s : HandleState) {e : Refusal} → (handle_called schema c s).0 ≡ Err e → handle_next (handle_called schema c s) ≡ s
  refused-same c s f = ap handle_next (step c s) ∙ refused_of_lem (sort_of (state_of s)) s (called schema c (state_of s)) (ends c (state_of s)) (sym (step_answer c s) ∙ f)

  module _ (sort : Bool) where
    laid_of : (s : HandleState) (o : Outcome) → Ends s.buf (Marked (state_of s)) o → Laid sort schema s → Laid sort schema (handle_next (handled sort schema s.handle o))
    laid_of s o (refusal e q) l = subst (λ (x : Outcome). Laid sort schema (handle_next (handled sort schema s.handle x))) (sym q) l
    laid_of s o (written r q u) l = subst (λ (x : Outcome). Laid sort schema (handle_next (handled sort schema s.handle x))) (sym q) refl

    laid_done : (s : HandleState) (o : Outcome) {m : ℕ} → o.0 ≡ Ok m → Laid sort schema (handle_next (handled sort schema s.handle o))
    laid_done s o e = ap (λ (a : Result ℕ). (handle_after (stored_layout sort schema o.1) s.handle a).layout) e

    module _ (c : Call) (s : HandleState) (is : sort_of (state_of s) ≡ sort) where
      step_sort : handle_called schema c s ≡ handled sort schema s.handle (called schema c (state_of s))
      step_sort = step c s ∙ ap (λ (k : Bool). handled k schema s.handle (called schema c (state_of s))) is

      laid_next : Laid sort schema s → Laid sort schema (handle_next (handle_called schema c s))
      laid_next l = subst (λ (x : Handled). Laid sort schema (handle_next x)) (sym step_sort) (laid_of s (called schema c (state_of s)) (ends c (state_of s)) l)

      accepted-next : {m : ℕ} → (handle_called schema c s).0 ≡ Ok m → Laid sort schema (handle_next (handle_called schema c s))
      accepted-next e = subst (λ (x : Handled). Laid sort schema (handle_next x)) (sym step_sort) (laid_done s (called schema c (state_of s)) (sym (step_answer c s) ∙ e))

    -- behind an accepted call the handle has the layout of schema, sort and flag, whatever it began with; else it is
    -- as it was
    laid_run : (cs : List Call) (s : HandleState) → sort_of (state_of s) ≡ sort → Laid sort schema s → Laid sort schema (handle_run schema cs s)
    laid_run [] s is l = l
    laid_run (c ∷ cs) s is l = laid_run cs (handle_next (handle_called schema c s)) (sort-next c s ∙ is) (laid_next c s is l)

    module _ (c : Call) (cs : List Call) (s : HandleState) (is : sort_of (state_of s) ≡ sort) where
      abbrev after : HandleState
      after = handle_next (handle_called schema c s)

      abbrev replied : List (Result ℕ)
      replied = handle_answers schema cs after

      abbrev laid : HandleLayout
      laid = stored_layout sort schema (handle_run schema cs after).buf

      -- one call more in front
      layout-more :
          (handle_run schema cs after).handle.layout ≡ cond (some_done replied) laid after.handle.layout
          → (a : Result ℕ) → (handle_called schema c s).0 ≡ a
          → (handle_run schema cs after).handle.layout ≡ cond (some_done (a ∷ replied)) laid s.handle.layout
      layout-more rest (Ok m) e = laid_run cs after (sort-next c s ∙ is) (accepted-next c s is e)
      layout-more rest (Err f) e =
          rest ∙ ap (λ (x : HandleState). cond (some_done replied) laid x.handle.layout) (refused-same c s e)

    pub run-layout : (cs : List Call) (s : HandleState) → sort_of (state_of s) ≡ sort
        → (handle_run schema cs s).handle.layout
        ≡ cond (some_done (handle_answers schema cs s)) (stored_layout sort schema (handle_run schema cs s).buf)
        s.handle.layout
    run-layout [] s is = refl
    run-layout (c ∷ cs) s is =
        let t = handle_next (handle_called schema c s) in
        layout-more c cs s is (run-layout cs t (sort-next c s ∙ is)) (handle_called schema c s).0 refl

-- ---- from any handle of fresh's length

module _ {sort : Bool} {schema : List ℕ} {ts : List DataType} (g : HandleHistory sort schema ts) where
  same_types : types_in schema ≡ ts
  same_types =
      on_good sort schema (ap (checked_schema sort) g.plain.columns) (λ e. []) (λ us. us)
      ∙ ap (λ (q : Parsed). on_result q (λ e. []) (λ us. us)) g.plain.columns

  start-same : state_of (handle_start g) ≡ g.plain.start
  start-same = ap (λ (n : ℕ). record { buf = g.plain.start.buf; row-length = n }) g.handed

  answers-same : handle_replies g ≡ replies g.plain
  answers-same =
      run-answers schema g.plain.calls (handle_start g)
      ∙ ap (answers schema g.plain.calls) start-same

  left-same : state_of (handle_left g) ≡ left g.plain
  left-same =
      run-state schema g.plain.calls (handle_start g)
      ∙ ap (run schema g.plain.calls) start-same

  start-sort : sort_of (state_of (handle_start g)) ≡ sort
  start-sort = ap sort_of start-same ∙ fresh-sort g.plain

  left-packed : is_packed (handle_left g).buf ≡ true
  left-packed =
      let l = left g.plain in
      ap (λ (x : State). is_packed x.buf) left-same
      ∙ flag-row l.buf l.row-length (told-row sort ts (row_of l) (accepts g.plain).sound)

  sheet-same : handle_sheet g ≡ sheet g.plain
  sheet-same = ap (λ (as' : List (Result ℕ)). sheet_by g.plain.calls as' (replicate (length ts) none)) answers-same

  zeroed-same : handle_zeroed g ≡ zeroed g.plain
  zeroed-same = ap (λ (x : State). zeroed_row (offset_width sort) (map shape_of ts) (row_of x)) left-same

pub carries : {sort : Bool} {schema : List ℕ} {ts : List DataType} (g : HandleHistory sort schema ts) → Carries g
carries {sort} {schema} {ts} g =
    record {
      answered = answers-same g;
      state = left-same g;
      built = λ o counts. rw (sheet-same g, zeroed-same g) ((history g.plain).built o counts);
      layout = run-layout schema sort g.plain.calls (handle_start g) (start-sort g) ∙ rw (same_types g, left-packed g);
    }

pub handles_told : {sort : Bool} {schema : List ℕ} {ts : List DataType} (g h : HandleHistory sort schema ts) → HandlesTold g h
handles_told {sort} {schema} {ts} g h =
    rw (zeroed-same g, zeroed-same h, sheet-same g, sheet-same h) (histories g.plain h.plain)
