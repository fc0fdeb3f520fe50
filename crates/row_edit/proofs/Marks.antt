-- An edit keeps both marks: it keeps the header of its row.
use Rattle.error.specs.Result.{Result}
use Rattle.std.specs.Prelude.{Err, Ok}
use Prim.Native.Nat.{ℕ, ◌≤◌, ◌<◌}
use mathlib.Core.Bool.{Bool}
use mathlib.Core.List.{List}
use mathlib.Core.Option.{none, some}
use mathlib.Core.Path.{◌≡◌, sym, ap, ◌∙◌, subst}
use native.Mathlib.Omega.{arith}
use lib.ListN.{length, take, drop}
use lib.Seq.{sets, length-sets, length-take-le, take-append_seam}
use Rattle.laws.proofs.Stores.{sets-start}
use Rattle.error.specs.Answer.{Outcome}
use Rattle.row_format.specs.Places.{offset_width}
use Rattle.row_format.specs.Table.{Cell}
use Rattle.row_format.specs.Header.{is_packed, is_long, sort_in}
use Rattle.row_format.proofs.Header.{sort-inside}
use Rattle.row_format.proofs.Front.{same_flag, same-sort}
use Rattle.datatype.specs.declared.DataType.{DataType}
use Rattle.datatype.specs.Check.{type_at}
use Rattle.row_sound.specs.Sound.{SoundRow}
use Rattle.row_sound.proofs.Columns.{sound-long}
use Rattle.row_sound.proofs.Rows.{null-short, edit_head}
use Rattle.row_edit.specs.Edit.{edited, given, set_call, set_null_call}
use Rattle.row_edit.specs.Marks.{SameMarks, MarksKept}
use Rattle.row_edit.proofs.Outcomes.{opened_by, tested_by, placed_by}

-- a column of a sound row changed, whatever is put there
module _ {k : Bool} {ts : List DataType} {p : Bool} (buf : List ℕ) (n : ℕ) (room : n ≤ length buf) (s : SoundRow k ts p (take n buf)) (i : ℕ) (h : i < length ts) (c : Cell) where
  abbrev new : List ℕ
  new = edited (offset_width k) ts p buf n i c

  pub edit_marks : length new ≤ length buf → SameMarks buf n (sets buf 0 new) (length new)
  edit_marks fits =
      let long : 4 ≤ length (take n buf) = omega (arith, sound-long (offset_width k) p ts (take n buf) s.sound) in
      let stored : take (length new) (sets buf 0 new) ≡ new = ap (take (length new)) (sets-start buf new fits) ∙ take-append_seam new (drop (length new) buf) in
      record {
        sort = sort-inside (sets buf 0 new) (length new) (rw length-sets fits) ∙ ap is_long stored ∙ same-sort (take n buf) new long (edit_head s i h c) ∙ sym (sort-inside buf n room);
        flag = ap is_packed stored ∙ same_flag (take n buf) new long (edit_head s i h c);
      }

-- ---- the calls

abbrev KeptIf : List ℕ → ℕ → List ℕ → Result ℕ → Type 0
KeptIf buf n after (Ok m) = SameMarks buf n after m
KeptIf buf n after (Err e) = Unit {0}

abbrev Kept : List ℕ → ℕ → Outcome → Type 0
Kept buf n o = KeptIf buf n o.1 o.0

module _ (schema buf : List ℕ) (n i : ℕ) where
  set-kept : (list area : List ℕ) → Kept buf n (set_call schema buf n i list area)
  set-kept list area =
      let k = sort_in buf n in
      opened_by buf (Kept buf n) (λ e. tt) k schema n i _
      λ ts p e room s h. tested_by buf (Kept buf n) (λ f. tt) (given k (type_at ts i) i list area) _
      λ b g. placed_by buf (Kept buf n) (λ f. tt) k (edited (offset_width k) ts p buf n i (some b))
      λ short fits. edit_marks buf n room s i h (some b) fits

  null-kept : Kept buf n (set_null_call schema buf n i)
  null-kept =
      opened_by buf (Kept buf n) (λ e. tt) (sort_in buf n) schema n i _
      λ ts p e room s h. edit_marks buf n room s i h none (let l = rw (length-take-le n buf room) at (null-short s i h) in omega arith)

  pub marks_kept : MarksKept schema buf n i
  marks_kept =
      record {
        set = λ list area e. subst (Kept buf n) e (set-kept list area);
        set-null = λ e. subst (Kept buf n) e null-kept;
      }
