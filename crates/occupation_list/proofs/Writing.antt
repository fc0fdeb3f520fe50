-- The walk that writes the lines: what was written, and the lines of the rows that are left.
use Prim.Native.Nat.{ℕ, ◌+◌, ◌≤◌, ◌<◌}
use mathlib.Core.Path.{◌≡◌, refl, sym, ap, ◌∙◌}
use mathlib.Core.List.{List, ◌∷◌, ◌++◌}
use native.Mathlib.Nat.{zero-add}
use native.Mathlib.Numerals.{add-one}
use native.Mathlib.Omega.{arith}
use lib.ListN.{length, get_or, drop, length-append, drop_of_length-le}
use lib.Seq.{sets, length-sets, drop-cons}
use Rattle.laws.proofs.Stores.{sets-append}
use Rattle.occupation.specs.Line.{line}
use Rattle.occupation_list.specs.InnerOrder.{occupation_at, lines_at}

pub record Writing (list order out₀ out : List ℕ) (i end : ℕ) : Type 0 where
  pub same : length out ≡ length out₀
  pub within : i ≤ length order
  pub sized : end + length (lines_at list (drop i order)) ≡ length (lines_at list order)
  pub rest : sets out end (lines_at list (drop i order)) ≡ sets out₀ 0 (lines_at list order)

pub write_start : (list order out : List ℕ) → Writing list order out out 0 0
write_start list order out = record { same = refl; within = omega arith; sized = zero-add (length (lines_at list order)); rest = refl }

module _ {list order out₀ out : List ℕ} {i end : ℕ} (room : length (lines_at list order) ≤ length out₀) (w : Writing list order out₀ out i end) where
  pub write_end : length order ≤ i → out ≡ sets out₀ 0 (lines_at list order)
  write_end h = sym (ap (λ (ps : List ℕ). sets out end (lines_at list ps)) (drop_of_length-le order {i = i} h)) ∙ w.rest

  module _ (h : i < length order) where
    split : drop i order ≡ get_or order i 0 ∷ drop (i + 1) order
    split = drop-cons order i 0 h ∙ rw add-one

    sized : end + length (line (occupation_at list (get_or order i 0)) ++ lines_at list (drop (i + 1) order)) ≡ length (lines_at list order)
    sized = sym (ap (λ (ps : List ℕ). end + length (lines_at list ps)) split) ∙ w.sized

    pub write_room : end + length (line (occupation_at list (get_or order i 0))) ≤ length out
    write_room = rw w.same (let s = rw length-append at sized in omega arith)

    pub write_more : {out' : List ℕ} {end' : ℕ} → end' ≡ end + length (line (occupation_at list (get_or order i 0))) → out' ≡ sets out end (line (occupation_at list (get_or order i 0))) → Writing list order out₀ out' (i + 1) end'
    write_more e o =
        record {
          same = ap length o ∙ length-sets out end (line (occupation_at list (get_or order i 0))) ∙ w.same;
          within = omega arith;
          sized = rw e (let s = rw length-append at sized in omega arith);
          rest = rw (o, e) (sym (sets-append out end (line (occupation_at list (get_or order i 0))) (lines_at list (drop (i + 1) order))))
              ∙ sym (ap (λ (ps : List ℕ). sets out end (lines_at list ps)) split) ∙ w.rest;
        }
