-- A call on a buffer: what holds of every refusal, and of what the call leaves behind its tests, holds of the call.
use Rattle.std.specs.Prelude.{Err, None, Ok, Option, Some}
use Prim.Native.Nat.{ℕ, ◌≤◌, ◌<◌}
use mathlib.Core.Bool.{Bool, cond}
use mathlib.Core.List.{List}
use mathlib.Core.Path.{◌≡◌, refl}
use borrow.Author.Tests.{ltb-false, leb-false}
use lib.Dec.{leb, ltb}
use lib.ListN.{length, take}
use Rattle.laws.proofs.Truths.{by_cond}
use Rattle.error.specs.declared.Refusal.{Refusal}
use Rattle.error.specs.declared.Refusal.TheVariants as No
use Rattle.error.specs.Answer.{Outcome, unchanged, placed}
use Rattle.error.specs.Result.{Result, on_result}
use Rattle.row_format.specs.Places.{row_limit}
use Rattle.datatype.specs.declared.DataType.{DataType}
use Rattle.datatype.specs.Schema.{Parsed, schema_of}
use Rattle.row_build.specs.Build.{row_placed}
use Rattle.row_column.specs.Frame.{on_frame}
use Rattle.row_sound.specs.Sound.{soundness, SoundRow}
use Rattle.row_sound.proofs.Rows.{told-row}
use Rattle.row_edit.specs.Edit.{on_sound, opening, opened, row_stored}

module _ (buf : List ℕ) (Q : Outcome → Type 0) (bad : (e : Refusal) → Q (unchanged buf e)) where
  -- 1, 2, 14, 15, then 9
  pub opened_by : (k : Bool) (schema : List ℕ) (n i : ℕ) (f : List DataType → Bool → Outcome)
      → ((ts : List DataType) (p : Bool) → schema_of k schema ≡ Ok ts → n ≤ length buf → SoundRow k ts p (take n buf) → i < length ts → Q (f ts p)) → Q (opened k schema buf n i f)
  opened_by k schema n i f good = by_schema (schema_of k schema) refl
    where
      Then : List DataType → Result Bool → Type 0
      Then ts x = Q (on_frame x (unchanged buf) (f ts))

      by_sound : (ts : List DataType) → schema_of k schema ≡ Ok ts → n ≤ length buf → (x : Option Bool) → soundness k ts (take n buf) ≡ x
          → Then ts (on_sound x (Err No.NotSound) (λ p. cond (leb (length ts) i) (Err No.NoSuchColumn) (Ok p)))
      by_sound ts g room (Some p) e =
          by_cond (Then ts) (leb (length ts) i) (Err No.NoSuchColumn) (Ok p) (λ h. bad No.NoSuchColumn)
          (λ h. good ts p g room (told-row k ts (take n buf) e) (leb-false (length ts) i h))
      by_sound ts g room None e = bad No.NotSound

      by_schema : (x : Parsed) → schema_of k schema ≡ x
          → Q (on_result x (unchanged buf) (λ ts. on_frame (opening k ts buf n i) (unchanged buf) (f ts)))
      by_schema (Ok ts) g =
          by_cond (Then ts) (ltb (length buf) n) (Err No.NoRoom) _ (λ h. bad No.NoRoom)
          (λ h. by_sound ts g (ltb-false (length buf) n h) (soundness k ts (take n buf)) refl)
      by_schema (Err e) g = bad e

  pub tested_by : {A : Type 0} (q : Result A) (f : A → Outcome) → ((x : A) → q ≡ Ok x → Q (f x)) → Q (on_result q (unchanged buf) f)
  tested_by (Ok x) f good = good x refl
  tested_by (Err e) f good = bad e

  -- 13, then 14
  pub placed_by : (k : Bool) (r : List ℕ) → (length r ≤ row_limit k → length r ≤ length buf → Q (row_stored buf r)) → Q (row_placed k buf r)
  placed_by k r good =
      by_cond Q (ltb (row_limit k) (length r)) (unchanged buf No.RowLimit) (placed buf r) (λ h. bad No.RowLimit)
      (λ h. by_cond Q (ltb (length buf) (length r)) (unchanged buf No.NoRoom) (row_stored buf r) (λ g. bad No.NoRoom)
      (λ g. good (ltb-false (row_limit k) (length r) h) (ltb-false (length buf) (length r) g)))
