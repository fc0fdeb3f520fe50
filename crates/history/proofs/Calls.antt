-- How a call ends: refused, with the buffer as it was, or with a row in the buffer's first bytes.
use Rattle.std.specs.Prelude.{Err, Ok}
use Prim.Native.Nat.{ℕ, ◌≤◌, ◌<◌}
use mathlib.Core.Bool.{Bool, true, false, cond}
use mathlib.Core.List.{List, [], ◌∷◌}
use mathlib.Core.Path.{◌≡◌, refl, sym, ap, subst}
use borrow.Author.Tests.{leb-false}
use lib.Dec.{leb}
use lib.ListN.{length, get_or, take}
use Rattle.row_format.specs.Places.{row_limit}
use Rattle.laws.proofs.Bytes.{AllBytes}
use Rattle.laws.proofs.Truths.{by_cond}
use Rattle.error.specs.declared.Refusal.{Refusal}
use Rattle.error.specs.declared.Refusal.TheVariants as No
use Rattle.error.specs.Answer.{Outcome, unchanged}
use Rattle.error.specs.Result.{Result, on_result}
use Rattle.datatype.specs.declared.DataType.{DataType}
use Rattle.datatype.specs.Schema.{schema_of}
use Rattle.value.specs.declared.DataValue.{DataValue}
use Rattle.value.specs.declared.DataValue.TheVariants.{Null}
use Rattle.value.specs.Kinds.{matches}
use Rattle.value.specs.Ranges.{text_of}
use Rattle.value_list.specs.Records.{Sized}
use Rattle.value_list.specs.Lists.{Values, values_of, checked}
use Rattle.value_list.proofs.Lists.{checked-taken, values-sized}
use Rattle.value_list.specs.InnerLists.{AllSized}
use Rattle.stored_form.specs.Write.{accepted, stored_form}
use Rattle.record_slot.specs.Stored.{stored_in}
use Rattle.row_build.specs.Build.{row_placed}
use Rattle.row_sound.specs.Sound.{SoundRow}
use Rattle.row_edit.specs.Edit.{opened, row_stored, given}
use Rattle.row_edit.proofs.Outcomes.{opened_by, tested_by, placed_by}
use Rattle.history.specs.History.{one_value}

-- ---- the outcome o of a call on a buffer; P is what is known of a row that it wrote

pub data Ends (buf : List ℕ) (P : List ℕ → Type 0) (o : Outcome) : Type 0 where
  refusal : (e : Refusal) → o ≡ unchanged buf e → Ends buf P o
  written : (r : List ℕ) → o ≡ row_stored buf r → P r → Ends buf P o

module _ {buf : List ℕ} {P : List ℕ → Type 0} where
  unwritten : (e : Refusal) → Ends buf P (unchanged buf e)
  unwritten e = refusal e refl

  -- 9
  pub column_ends : (n i : ℕ) (o : Outcome) → (i < n → Ends buf P o) → Ends buf P (cond (leb n i) (unchanged buf No.NoSuchColumn) o)
  column_ends n i o f = by_cond (Ends buf P) (leb n i) (unchanged buf No.NoSuchColumn) o (λ h. unwritten No.NoSuchColumn) (λ h. f (leb-false n i h))

  -- 1, 2, 14, 15, then 9
  pub opened_ends : (sort : Bool) (schema : List ℕ) (n i : ℕ) (k : List DataType → Bool → Outcome)
      → ((ts : List DataType) (p : Bool) → schema_of sort schema ≡ Ok ts → n ≤ length buf → SoundRow sort ts p (take n buf) → i < length ts → Ends buf P (k ts p)) → Ends buf P (opened sort schema buf n i k)
  opened_ends = opened_by buf (Ends buf P) unwritten

  pub tested_ends : {A : Type 0} (q : Result A) (k : A → Outcome) → ((x : A) → q ≡ Ok x → Ends buf P (k x)) → Ends buf P (on_result q (unchanged buf) k)
  tested_ends = tested_by buf (Ends buf P) unwritten

  -- 13, then 14
  pub placed_ends : (sort : Bool) (r : List ℕ) → (length r ≤ row_limit sort → length r ≤ length buf → P r) → Ends buf P (row_placed sort buf r)
  placed_ends sort r f = placed_by buf (Ends buf P) unwritten sort r (λ short room. written r refl (f short room))

-- ---- a value that was accepted

pub record Chosen (t : DataType) (v : DataValue) (area b : List ℕ) : Type 0 where
  pub match : matches t v ≡ true
  pub accept : accepted t v area ≡ true
  pub form : b ≡ stored_form t v (text_of area v)

abbrev IsGood : {A : Type 0} → Result A → Type 0
IsGood (Ok x) = Unit {0}
IsGood (Err e) = ⊥

pub stored_chosen : (i : ℕ) (t : DataType) (v : DataValue) (area b : List ℕ) → stored_in i t v area ≡ Ok b → Chosen t v area b
stored_chosen i t v area b e = of_tests (matches t v) (accepted t v area) refl refl e
  where
    of_tests : (x y : Bool) → matches t v ≡ x → accepted t v area ≡ y
        → cond x (cond y (Ok (stored_form t v (text_of area v))) (Err (No.Unsuitable i))) (Err (No.WrongKind i)) ≡ Ok b → Chosen t v area b
    of_tests true true m a q = record { match = m; accept = a; form = cc }
    of_tests true false m a q = absurd (subst IsGood (sym q) tt)
    of_tests false y m a q = absurd (subst IsGood (sym q) tt)

first_sized : (vs : List DataValue) → AllSized vs → Sized (get_or vs 0 Null)
first_sized [] f = tt
first_sized (v ∷ vs) f = f.0

-- the one value of a set
pub record Taken (t : DataType) (list area b : List ℕ) : Type 0 where
  pub chosen : Chosen t (one_value (values_of list)) area b
  pub sized : Sized (one_value (values_of list))

pub given-taken : (sort : Bool) (t : DataType) (i : ℕ) (list area b : List ℕ) → AllBytes list → given sort t i list area ≡ Ok b → Taken t list area b
given-taken sort t i list area b a e = of_values (checked sort 1 (length area) list) refl e
  where
    of_values : (q : Values) → checked sort 1 (length area) list ≡ q → on_result q Err (λ vs. stored_in i t (get_or vs 0 Null) area) ≡ Ok b → Taken t list area b
    of_values (Err r) c q = absurd (subst IsGood (sym q) tt)
    of_values (Ok vs) c q =
        let all = (checked-taken sort 1 (length area) list c).all in
        let one : get_or vs 0 Null ≡ one_value (values_of list) = sym (ap one_value all) in
        record {
          chosen = subst (λ v. Chosen t v area b) one (stored_chosen i t (get_or vs 0 Null) area b q);
          sized = subst Sized one (first_sized vs (values-sized list a all));
        }
