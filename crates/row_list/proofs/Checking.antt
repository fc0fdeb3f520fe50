-- The walk that checks a list: the rows that were passed, and what is left.
use Rattle.std.specs.Prelude.{Err, Ok}
use Prim.Native.Nat.{ℕ, suc, ◌+◌, ◌-◌, ◌≤◌, ◌<◌}
use mathlib.Core.Path.{◌≡◌, refl, sym, ap, ◌∙◌}
use mathlib.Core.List.{List}
use native.Mathlib.Nat.{zero-add, add-zero, sub-zero}
use native.Mathlib.Omega.{arith}
use borrow.Author.Tests.{le-ltb}
use lib.ListN.{length, drop, length-drop, drop_of_length-le}
use lib.Seq.{drop-drop}
use Rattle.error.specs.declared.Refusal.TheVariants.{BadList}
use Rattle.error.specs.Result.{Result, before}
use Rattle.row_list.specs.Rows.{first_size, first_row, later_rows, rows_from, rows_of}
use Rattle.row_list.specs.InnerRows.{list_checked}
use Rattle.row_list.proofs.Rows.{rows_none, rows_full, rows_cut, rows_more}

abbrev onward : ℕ → Result (List (List ℕ)) → Result ℕ
onward k (Ok rs) = Ok (k + length rs)
onward k (Err e) = Err e

onward_zero : (x : Result (List (List ℕ))) → onward 0 x ≡ list_checked x
onward_zero (Ok rs) = ap Ok (zero-add (length rs))
onward_zero (Err e) = refl

onward_more : (k : ℕ) (r : List ℕ) (x : Result (List (List ℕ))) → onward (k + 1) x ≡ onward k (before r x)
onward_more k r (Ok rs) = let e : k + 1 + length rs ≡ k + suc (length rs) = omega arith in ap Ok e
onward_more k r (Err e) = refl

pub record Checking (most : ℕ) (s : List ℕ) (at rows : ℕ) : Type 0 where
  pub inside : at ≤ length s
  pub few : rows ≤ at
  pub within : rows ≤ most
  pub rest : onward rows (rows_from (most - rows) (drop at s)) ≡ list_checked (rows_of most s)

pub check_start : (most : ℕ) (s : List ℕ) → length s ≤ 32768 → Checking most s 0 0
check_start most s h =
    record {
      inside = omega arith;
      few = omega arith;
      within = omega arith;
      rest = rw (sub-zero most, le-ltb 32768 (length s) h) (onward_zero (rows_from most s));
    }

module _ {most : ℕ} {s : List ℕ} {at rows : ℕ} (k : Checking most s at rows) where
  pub check_end : length s ≤ at → Ok rows ≡ list_checked (rows_of most s)
  check_end h = rw (drop_of_length-le s {i = at} h, rows_none (most - rows), add-zero) at k.rest

  module _ (h : at < length s) where
    left : 0 < length (drop at s)
    left = rw length-drop (omega arith)

    pub check_full : rows ≡ most → Err BadList ≡ list_checked (rows_of most s)
    check_full e = let z : most - rows ≡ 0 = omega arith in rw (z, rows_full (drop at s) left) at k.rest

    pub check_cut : length s < at + (2 + first_size (drop at s)) → Err BadList ≡ list_checked (rows_of most s)
    check_cut l = rw (rows_cut (most - rows) (drop at s) left (rw length-drop (omega arith))) at k.rest

    pub check_more : (rows ≡ most → ⊥) → at + (2 + first_size (drop at s)) ≤ length s → Checking most s (at + (2 + first_size (drop at s))) (rows + 1)
    check_more ne l =
        let w = k.within in
        let n : most - rows ≡ suc (most - (rows + 1)) = omega (arith, ne) in
        let size = first_size (drop at s) in
        let next : drop (2 + first_size (drop at s)) (drop at s) ≡ drop (at + (2 + first_size (drop at s))) s = drop-drop (2 + first_size (drop at s)) at s in
        record {
          inside = l;
          few = omega (arith, k.few);
          within = omega (arith, ne);
          rest = ap (λ (t : List ℕ). onward (rows + 1) (rows_from (most - (rows + 1)) t)) (sym next)
              ∙ onward_more rows (first_row (drop at s)) (rows_from (most - (rows + 1)) (later_rows (drop at s)))
              ∙ rw (n, rows_more (most - (rows + 1)) (drop at s) left (rw length-drop (omega arith))) at k.rest;
        }
