-- A list that was accepted with exactly one record.
use Rattle.std.specs.Prelude.{Err, Ok}
use Prim.Native.Nat.{ℕ, zero, suc, ◌<◌}
use mathlib.Core.Path.{◌≡◌, refl, sym, ◌∙◌, ap}
use mathlib.Core.List.{List, [], ◌∷◌}
use native.Mathlib.Omega.{arith}
use lib.ListN.{length}
use Rattle.error.proofs.Results.{ok_first}
use Rattle.error.specs.Result.{Result}
use Rattle.error.specs.declared.Refusal.{Refusal}
use Rattle.value.specs.declared.DataValue.{DataValue}
use Rattle.value_list.specs.Records.{record_at}
use Rattle.value_list.specs.Lists.{Values, records, values_of, checked}
use Rattle.value_list.proofs.Lists.{records_first, checked-taken}
use Rattle.value_list.specs.InnerLists.{answer}
use mathlib.Core.Bool.{Bool}

record First (s : List ℕ) (v : DataValue) : Type 0 where
  pub next : ℕ
  pub within : 0 < length s
  pub first : record_at s 0 ≡ Ok (v, next)

first_of : (n : ℕ) (s : List ℕ) (v : DataValue) → records n s 0 ≡ Ok (v ∷ []) → First s v
first_of zero s v e = let z : ◌≡◌ {A = ℕ} 0 1 = cc in absurd (omega arith)
first_of (suc n) s v e = let f = records_first n s 0 e in record { next = f.next; within = f.within; first = f.first }

all_first : (s : List ℕ) (v : DataValue) → values_of s ≡ Ok (v ∷ []) → First s v
unfolding values_of
all_first s v e = first_of (length s) s v e

good_none : {r : Refusal} → ◌≡◌ {A = Result Unit} (Ok tt) (Err r) → ⊥
good_none p = let z : ◌≡◌ {A = ℕ} 0 1 = cc in omega arith

value_none : {v : DataValue} {next : ℕ} {r : Refusal} → ◌≡◌ {A = Result (DataValue × ℕ)} (Ok (v, next)) (Err r) → ⊥
value_none p = let z : ◌≡◌ {A = ℕ} 0 1 = cc in omega arith

record Sole (k : Bool) (area : ℕ) (s : List ℕ) : Type 0 where
  pub value : DataValue
  pub all : checked k 1 area s ≡ Ok (value ∷ [])
  pub place : First s value

module _ (k : Bool) (area : ℕ) (s : List ℕ) where
  of_list : (vs : List DataValue) → length vs ≡ 1 → checked k 1 area s ≡ Ok vs → values_of s ≡ Ok vs → Sole k area s
  of_list [] c e f = absurd (omega arith)
  of_list (v ∷ []) c e f = record { value = v; all = e; place = all_first s v f }
  of_list (v ∷ (w ∷ vs)) c e f = absurd (omega arith)

  of_checked : (q : Values) → checked k 1 area s ≡ q → (Ok tt) ≡ answer q → Sole k area s
  of_checked (Ok vs) e g = let t = checked-taken k 1 area s e in of_list vs t.count e t.all
  of_checked (Err r) e g = absurd (good_none g)

  module _ (g : (Ok tt) ≡ answer (checked k 1 area s)) where
    sole : Sole k area s
    sole = of_checked (checked k 1 area s) refl g

    pub sole_there : 0 < length s
    sole_there = sole.place.within

    pub sole_value : (v : DataValue) (next : ℕ) → record_at s 0 ≡ Ok (v, next) → checked k 1 area s ≡ Ok (v ∷ [])
    sole_value v next e =
        sole.all ∙ ap (λ (x : DataValue). Ok (x ∷ [])) (sym (ok_first (sym e ∙ sole.place.first)))

    pub sole_good : (r : Refusal) → record_at s 0 ≡ Err r → ⊥
    sole_good r e = value_none (sym sole.place.first ∙ e)

  -- and one that was not
  pub refused-list : (q : Values) (r : Refusal) → answer q ≡ Err r → q ≡ Err r
  refused-list (Ok vs) r e = absurd (good_none e)
  refused-list (Err r') r e = let h : r' ≡ r = cc in ap Err h
