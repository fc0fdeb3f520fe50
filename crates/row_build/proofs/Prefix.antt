-- A value list walked record by record, while it is not known yet whether it is good.
use Rattle.std.specs.Prelude.{Err, Ok}
use Prim.Native.Nat.{ℕ, zero, suc, ◌+◌, ◌≤◌, ◌<◌}
use mathlib.Core.Path.{◌≡◌, refl, sym, ap, ◌∙◌, subst}
use mathlib.Core.List.{List, [], ◌∷◌, ◌++◌, append-nil, append_assoc}
use native.Mathlib.Omega.{arith}
use borrow.Author.Tests.{lt-ltb, le-ltb}
use lib.ListN.{length, length-append}
use Rattle.error.specs.Result.{before, Result}
use Rattle.value.specs.declared.DataValue.{DataValue}
use Rattle.value_list.specs.Records.{record_at}
use Rattle.value_list.specs.Lists.{Values, on_record, records, values_of}
use Rattle.record_slot.proofs.Tests.{IsGood}

-- values, and those that follow or why there are none
abbrev after : List DataValue → Values → Values
after done (Ok vs) = Ok (done ++ vs)
after done (Err e) = Err e

after_none : (q : Values) → q ≡ after [] q
after_none (Ok vs) = refl
after_none (Err e) = refl

after_one : (done : List DataValue) (v : DataValue) (q : Values) → after done (before v q) ≡ after (done ++ (v ∷ [])) q
after_one done v (Ok vs) = ap Ok (sym (append_assoc done (v ∷ []) vs))
after_one done v (Err e) = refl

-- i records, up to a place
pub record Prefix (list : List ℕ) (i from : ℕ) : Type 0 where
  pub done : List DataValue
  pub count : length done ≡ i
  pub inside : from ≤ length list
  pub fuel : ℕ
  pub enough : length list ≤ fuel + from
  pub all : values_of list ≡ after done (records fuel list from)

pub prefix_start : (list : List ℕ) → Prefix list 0 0
unfolding values_of
prefix_start list = record { done = []; count = refl; inside = omega arith; fuel = length list; enough = omega arith; all = after_none (records (length list) list 0) }

abbrev values_in : Values → List DataValue
values_in (Ok vs) = vs
values_in (Err e) = []

module _ {list : List ℕ} {i from : ℕ} (p : Prefix list i from) where
  module _ (h : from < length list) where
    pub prefix_next : {v : DataValue} {next : ℕ} → record_at list from ≡ Ok (v, next) → from < next → next ≤ length list → Prefix list (i + 1) next
    prefix_next {v} {next} e l m = by_fuel p.fuel refl
      where
        by_fuel : (f : ℕ) → p.fuel ≡ f → Prefix list (i + 1) next
        by_fuel zero g = absurd (omega (arith, p.enough, g))
        by_fuel (suc f) g =
            record {
              done = p.done ++ (v ∷ []);
              count = length-append p.done (v ∷ []) ∙ omega (arith, p.count);
              inside = m;
              fuel = f;
              enough = omega (arith, p.enough, g);
              all = p.all ∙ rw (g, lt-ltb from (length list) h, e) (after_one p.done v (records f list next));
            }

    -- so a good list has a value more
    pub prefix_more : {vs : List DataValue} → values_of list ≡ Ok vs → i < length vs
    prefix_more {vs} e = by_fuel p.fuel refl
      where
        of_rest : (v : DataValue) (q : Values) → after p.done (before v q) ≡ Ok vs → i < length vs
        of_rest v (Ok us) g =
            let n : length vs ≡ length p.done + suc (length us) = sym (ap (λ (w : Values). length (values_in w)) g) ∙ length-append p.done (v ∷ us) in
            omega (arith, n, p.count)
        of_rest v (Err u) g = absurd (subst IsGood (sym g) tt)

        of_record : (f : ℕ) (q : Result (DataValue × ℕ)) → after p.done (on_record q (records f list)) ≡ Ok vs → i < length vs
        of_record f (Ok (v, next)) g = of_rest v (records f list next) g
        of_record f (Err u) g = absurd (subst IsGood (sym g) tt)

        by_fuel : (f : ℕ) → p.fuel ≡ f → i < length vs
        by_fuel zero g = absurd (omega (arith, p.enough, g))
        by_fuel (suc f) g = of_record f (record_at list from) (rw (g, lt-ltb from (length list) h) at (sym p.all ∙ e))

  pub prefix_end : from ≡ length list → values_of list ≡ Ok p.done
  prefix_end e = p.all ∙ ap (after p.done) (none p.fuel) ∙ ap Ok (append-nil p.done)
    where
      none : (f : ℕ) → records f list from ≡ Ok []
      none zero = refl
      none (suc f) = rw (le-ltb from (length list) (omega arith))
