-- A call sees a value list by its values, and by its length where their number is wrong.
use Rattle.std.specs.Prelude.{Err, Ok}
use Prim.Native.Nat.{ℕ}
use mathlib.Core.Path.{◌≡◌, refl, sym, ap, ◌∙◌}
use mathlib.Core.Bool.{Bool}
use mathlib.Core.List.{List}
use borrow.Author.Tests.{eq-eqb, ne_eqb}
use lib.ListN.{length, get_or}
use Rattle.error.specs.declared.Refusal.{Refusal}
use Rattle.error.specs.declared.Refusal.TheVariants.{BadValueList}
use Rattle.error.specs.Answer.{unchanged, unchanged_both}
use Rattle.error.specs.Result.{Result, on_result}
use Rattle.row_format.specs.Header.{sort_in}
use Rattle.datatype.specs.declared.DataType.{DataType}
use Rattle.datatype.specs.Schema.{Parsed, schema_of}
use Rattle.datatype.specs.Check.{type_at}
use Rattle.value.specs.declared.DataValue.{DataValue}
use Rattle.value.specs.declared.DataValue.TheVariants.{Null}
use Rattle.value_list.specs.Lists.{Values, judged, checked}
use Rattle.value_list.specs.Forms.{ListOf}
use Rattle.value_list.proofs.Lists.{list_read_lem}
use Rattle.record_slot.specs.Stored.{stored_in}
use Rattle.row_column.proofs.Framing.{same_good}
use Rattle.row_build.specs.Build.{build_values, build_row, build_call}
use Rattle.row_edit.specs.Edit.{opening, written}
use Rattle.all_calls.specs.EitherForm.{EitherForm}

-- ---- what a list is checked to be

module _ {vs : List DataValue} {list : List ℕ} (l : ListOf vs list) (k : Bool) (n area : ℕ) where
  checked-is : checked k n area list ≡ judged k n area (length list) (Ok vs)
  checked-is = ap (judged k n area (length list)) (list_read_lem l)

  miscounted-is : (length vs ≡ n → ⊥) → checked k n area list ≡ Err (BadValueList (length list))
  miscounted-is h = checked-is ∙ rw (ne_eqb (length vs) n h)

checked-same : {vs : List DataValue} {list list' : List ℕ} → ListOf vs list → ListOf vs list' → (k : Bool) (n area : ℕ)
    → length vs ≡ n → checked k n area list ≡ checked k n area list'
checked-same {vs} l l' k n area h =
    checked-is l k n area
    ∙ (rw (eq-eqb (length vs) n h))
    ∙ sym (checked-is l' k n area)

-- ---- the calls

-- a call that goes on behind a result in two ways that are the same
same-result : {A B : Type 0} (q : Result A) (bad : Refusal → B) {f g : A → B} → ((x : A) → q ≡ Ok x → f x ≡ g x)
    → on_result q bad f ≡ on_result q bad g
same-result (Ok x) bad h = h x refl
same-result (Err e) bad h = refl

module _ (sort : Bool) (schema area out counts : List ℕ) where
  row_of : (ts : List DataType) (list : List ℕ) (q : Values) → checked sort (length ts) (length area) list ≡ q
      → build_row sort ts list area out counts
      ≡ on_result q (unchanged_both out counts) (λ vs. build_values sort ts vs area out counts)
  row_of ts list q e = ap (λ (p : Values). on_result p (unchanged_both out counts) (λ vs. build_values sort ts vs area out counts)) e

  build-same : {vs : List DataValue} {list list' : List ℕ} → ListOf vs list → ListOf vs list'
      → ((ts : List DataType) → schema_of sort schema ≡ Ok ts → length vs ≡ length ts)
      → build_call sort schema list area out counts ≡ build_call sort schema list' area out counts
  build-same {list = list} {list' = list'} l l' h =
      same-result (schema_of sort schema) (unchanged_both out counts)
      (λ ts e. row_of ts list (checked sort (length ts) (length area) list') (checked-same l l' sort (length ts) (length area) (h ts e)))

  build-miscounted : {vs : List DataValue} {list : List ℕ} → ListOf vs list → (ts : List DataType)
      → schema_of sort schema ≡ Ok ts → (length vs ≡ length ts → ⊥)
      → build_call sort schema list area out counts ≡ unchanged_both out counts (BadValueList (length list))
  build-miscounted {list = list} l ts e h =
      ap (λ (p : Parsed). on_result p (unchanged_both out counts) (λ us. build_row sort us list area out counts)) e
      ∙ row_of ts list (Err (BadValueList (length list))) (miscounted-is l sort (length ts) (length area) h)

module _ (schema buf : List ℕ) (n i : ℕ) (area : List ℕ) where
  abbrev k : Bool
  k = sort_in buf n

  given-same : {vs : List DataValue} {list list' : List ℕ} → ListOf vs list → ListOf vs list' → length vs ≡ 1
      → (t : DataType) → on_result (checked k 1 (length area) list) Err (λ us. stored_in i t (get_or us 0 Null) area)
      ≡ on_result (checked k 1 (length area) list') Err (λ us. stored_in i t (get_or us 0 Null) area)
  given-same l l' h t =
      ap (λ (q : Values). on_result q Err (λ us. stored_in i t (get_or us 0 Null) area))
      (checked-same l l' k 1 (length area) h)

pub either_form : {vs : List DataValue} {list list' : List ℕ} (l : ListOf vs list) (l' : ListOf vs list') → EitherForm l l'
either_form l l' =
    record {
      build = λ sort schema area out counts h. build-same sort schema area out counts l l' h;
      miscounted = λ sort schema area out counts ts e h. build-miscounted sort schema area out counts l ts e h;
      set = λ schema buf n i area h.
          same-result (schema_of (sort_in buf n) schema) (unchanged buf)
          (λ ts e. same_good (opening (sort_in buf n) ts buf n i) (unchanged buf)
          (λ p g. ap (written (sort_in buf n) ts p buf n i) (given-same schema buf n i area l l' h (type_at ts i))));
    }
