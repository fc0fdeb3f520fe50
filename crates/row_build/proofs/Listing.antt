-- What is known of a value list that was taken, and how a call goes on behind its check.

use Rattle.std.specs.Prelude.{Err, Ok}
use Prim.Native.Nat.{ℕ}
use mathlib.Core.Path.{◌≡◌, refl, sym, ap, ◌∙◌, subst}
use mathlib.Core.List.{List}
use borrow.Author.Tests.{eq-eqb, le-ltb}
use lib.ListN.{length}
use Rattle.error.specs.declared.Refusal.{Refusal}
use Rattle.error.specs.declared.Refusal.TheVariants.{NoRoom}
use Rattle.error.specs.Result.{on_result, Result}
use Rattle.row_format.specs.Places.{row_limit}
use Rattle.row_layout.specs.declared.RowLayout.{RowLayout}
use Rattle.datatype.specs.Check.{types_in}
use Rattle.value.specs.declared.DataValue.{DataValue}
use Rattle.value_list.specs.Lists.{Values, judged, checked}
use Rattle.value_list.proofs.Lists.{Taken, checked-taken}
use Rattle.value_list.specs.InnerLists.{answer}
use Rattle.datatype.proofs.Again.{columns-all}
use Rattle.datatype.specs.InnerCheck.{Accepted}
use Rattle.row_build.specs.InnerSteps.{values_given, values_in, Buildable}

abbrev reason_in : Result Unit → Refusal
reason_in (Ok tt) = NoRoom
reason_in (Err e) = e

abbrev IsGood : Result Unit → Type 0
IsGood (Ok tt) = Unit {0}
IsGood (Err e) = ⊥

good-values : (q : Values) → answer q ≡ Ok tt → q ≡ Ok (values_given q)
good-values (Ok vs) e = refl
good-values (Err u) e = absurd (subst IsGood (sym e) tt)

refused-values : {A : Type 0} (q : Values) {e : Refusal} (bad : Refusal → A) (k : List DataValue → A) → answer q ≡ Err e → bad e ≡ on_result q bad k
refused-values (Ok vs) bad k f = absurd (subst IsGood f tt)
refused-values (Err u) bad k f = ap bad (sym (ap reason_in f))

module _ {s : List ℕ} {l : RowLayout} (a : Accepted s l) (list area : List ℕ) {c : Result Unit} (e : c ≡ answer (checked l.is_long l.num_columns (length area) list)) where
  abbrev said : Values
  said = checked l.is_long (length (types_in s)) (length area) list

  said_is : c ≡ answer said
  said_is = e ∙ ap (λ (n : ℕ). answer (checked l.is_long n (length area) list)) (columns-all a)

  pub on_list-refused : {A : Type 0} {u : Refusal} (bad : Refusal → A) (k : List DataValue → A) → c ≡ Err u → bad u ≡ on_result said bad k
  on_list-refused bad k f = refused-values said bad k (sym said_is ∙ f)

  module _ (f : c ≡ Ok tt) where
    taken : Taken l.is_long (length (types_in s)) (length area) list (values_given said)
    taken = checked-taken l.is_long (length (types_in s)) (length area) list (good-values said (sym said_is ∙ f))

    same-values : values_in list ≡ values_given said
    unfolding values_in
    same-values = ap values_given taken.all

    pub listed : Buildable s l list area
    listed = record { accepted = a; taken = taken.all ∙ ap Ok (sym same-values); count = ap length same-values ∙ taken.count; short = taken.short }

-- and of a list that is known to be good
pub on_list : {s : List ℕ} {l : RowLayout} {list area : List ℕ} → Buildable s l list area → {A : Type 0} (bad : Refusal → A) (k : List DataValue → A)
    → k (values_in list) ≡ on_result (checked l.is_long (length (types_in s)) (length area) list) bad k
on_list {s} {l} {list} {area} b bad k =
    sym (ap (λ (q : Values). on_result (judged l.is_long (length (types_in s)) (length area) (length list) q) bad k) b.taken
    ∙ rw (eq-eqb (length (values_in list)) (length (types_in s)) b.count, le-ltb (row_limit l.is_long) (length area) b.short))
