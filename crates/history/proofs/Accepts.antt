-- Every history leaves a sound row, so its next edit is judged by its own conditions.
use Prim.Native.Nat.{ℕ, ◌<◌, ◌≤◌}
use mathlib.Core.Bool.{Bool, true}
use mathlib.Core.List.{List}
use mathlib.Core.Path.{◌≡◌, ◌∙◌}
use borrow.Author.Tests.{lt-leb, le-leb}
use lib.ListN.{length}
use Rattle.error.specs.declared.Refusal.TheVariants.{NoSuchColumn}
use Rattle.error.specs.Answer.{Outcome, unchanged}
use Rattle.history.specs.History.{sort_of}
use Rattle.datatype.specs.declared.DataType.{DataType}
use Rattle.row_edit.specs.Edit.{opened}
use Rattle.history.specs.Demand.{History, left, Accepts}
use Rattle.history.proofs.Kept.{kept-sound, kept-sort, open_kept}
use Rattle.history.proofs.Histories.{kept}

module _ {sort : Bool} {schema : List ℕ} {ts : List DataType} (h : History sort schema ts) where
  opens : (i : ℕ) (f : List DataType → Bool → Outcome) → i < length ts → opened sort schema (left h).buf (left h).row-length i f ≡ f ts true
  opens i f l = open_kept sort schema ts h.columns (kept h) i f ∙ rw (lt-leb (length ts) i l)

  shut : (i : ℕ) (f : List DataType → Bool → Outcome) → length ts ≤ i → opened sort schema (left h).buf (left h).row-length i f ≡ unchanged (left h).buf NoSuchColumn
  shut i f l = open_kept sort schema ts h.columns (kept h) i f ∙ rw (le-leb (length ts) i l)

  marked : sort_of (left h) ≡ sort
  marked = kept-sort sort schema ts h.columns (kept h)

  pub accepts : Accepts h
  accepts = record { sound = kept-sound sort schema ts h.columns (kept h); set = λ i list area b l e. rw marked (opens i _ l ∙ rw e); bad_value = λ i list area l e. rw marked (opens i _ l ∙ rw e); no_column = λ i list area l. rw marked (shut i _ l); no_null = λ i l. rw marked (shut i _ l); set-null = λ i l. rw marked (opens i _ l) }
