-- The loop of the check: the records that are left, counted on to those before them, decide as the whole list does.

use Rattle.std.specs.Prelude.{Err, Ok}
use Prim.Native.Nat.{ℕ, zero, suc, ◌+◌, ◌-◌, ◌≤◌, ◌<◌}
use mathlib.Core.Path.{◌≡◌, refl, sym, ap, ◌∙◌}
use mathlib.Core.Bool.{Bool, true, false, cond}
use mathlib.Core.List.{List}
use native.Mathlib.Nat.{zero-add, add-zero, sub-zero}
use native.Mathlib.Omega.{arith}
use borrow.Author.Tests.{lt-ltb, le-ltb}
use lib.Dec.{eqb, ltb}
use lib.ListN.{length}
use Rattle.error.specs.declared.Refusal.{Refusal}
use Rattle.error.specs.declared.Refusal.TheVariants.{BadValueList}
use Rattle.error.specs.Result.{before, Result}
use Rattle.row_format.specs.Places.{row_limit}
use Rattle.value.specs.declared.DataValue.{DataValue}
use Rattle.value_list.specs.Lists.{Values, records, values_of, judged, checked}
use Rattle.value_list.specs.InnerSizes.{size_at}
use Rattle.value_list.proofs.Sizes.{Whole, size_none}
use Rattle.value_list.specs.InnerLists.{answer}

-- the tests after the last record
abbrev pub settled : Bool → ℕ → ℕ → ℕ → ℕ → Result Unit
settled k n area len count = cond (eqb count n) (cond (ltb (row_limit k) area) (Err (BadValueList 0)) (Ok tt)) (Err (BadValueList len))

abbrev rest : Bool → ℕ → ℕ → ℕ → ℕ → Values → Result Unit
rest k n area len count (Ok vs) = settled k n area len (count + length vs)
rest k n area len count (Err r) = Err r

answer-cond : (t u : Bool) (q r : Refusal) (vs : List DataValue) → cond t (cond u (Err q) (Ok tt)) (Err r) ≡ answer (cond t (cond u (Err q) (Ok vs)) (Err r))
answer-cond true true q r vs = refl
answer-cond true false q r vs = refl
answer-cond false u q r vs = refl

rest_all : (k : Bool) (n area len : ℕ) (p : Values) → rest k n area len 0 p ≡ answer (judged k n area len p)
rest_all k n area len (Ok vs) =
    ap (settled k n area len) (zero-add (length vs)) ∙ answer-cond (eqb (length vs) n) (ltb (row_limit k) area) (BadValueList 0) (BadValueList len) vs
rest_all k n area len (Err r) = refl

rest_before : (k : Bool) (n area len count : ℕ) (v : DataValue) (p : Values) → rest k n area len count (before v p) ≡ rest k n area len (count + 1) p
rest_before k n area len count v (Ok vs) = ap (settled k n area len) (omega arith)
rest_before k n area len count v (Err r) = refl

pub record Checking (k : Bool) (s : List ℕ) (n area at count : ℕ) : Type 0 where
  pub behind : count ≤ at
  pub whole : rest k n area (length s) count (records (length s - count) s at) ≡ answer (checked k n area s)

pub check_start : (k : Bool) (s : List ℕ) (n area : ℕ) → Checking k s n area 0 0
unfolding values_of
check_start k s n area =
    record { behind = omega arith; whole = ap (λ (m : ℕ). rest k n area (length s) 0 (records m s 0)) (sub-zero (length s)) ∙ rest_all k n area (length s) (records (length s) s 0) }

module _ {k : Bool} {s : List ℕ} {n area at count : ℕ} (w : Checking k s n area at count) where
  none_left : (m : ℕ) → length s ≤ at → rest k n area (length s) count (records m s at) ≡ settled k n area (length s) count
  none_left zero h = rw add-zero
  none_left (suc m) h = rw (le-ltb _ _ h, add-zero)

  pub check_end : length s ≤ at → settled k n area (length s) count ≡ answer (checked k n area s)
  check_end h = sym (none_left (length s - count) h) ∙ w.whole

  module _ (h : at < length s) where
    left : length s - count ≡ suc (length s - (count + 1))
    left = omega (arith, w.behind)

    pub check_bad : size_at s at ≡ 0 → Err (BadValueList at) ≡ answer (checked k n area s)
    check_bad e = sym (rw (lt-ltb at (length s) h, size_none s at h e)) ∙ rw left at w.whole

    pub check_more : Whole s at → Checking k s n area (at + size_at s at) (count + 1)
    check_more q =
        record {
          behind = omega (arith, w.behind, q.some);
          whole = sym (rw (lt-ltb at (length s) h, q.value) (rest_before k n area (length s) count _ (records (length s - (count + 1)) s (at + size_at s at)))) ∙ rw left at w.whole;
        }
