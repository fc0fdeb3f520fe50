-- The rows of a list one after the other.
use Rattle.std.specs.Prelude.{Err, Ok}
use Prim.Native.Nat.{ℕ, zero, suc, ◌+◌, ◌-◌, ◌≤◌, ◌<◌}
use mathlib.Core.Path.{◌≡◌, refl, sym, ap, ◌∙◌}
use mathlib.Core.Bool.{Bool, cond}
use mathlib.Core.List.{List, [], ◌∷◌}
use native.Mathlib.Omega.{arith}
use borrow.Author.Tests.{lt-ltb, le-ltb, ne_eqb}
use lib.ListN.{length, drop, length-drop, drop_of_length-le}
use lib.Seq.{drop-drop}
use Rattle.error.specs.declared.Refusal.TheVariants.{BadList}
use Rattle.error.specs.Result.{Result, before}
use Rattle.laws.proofs.Truths.{cases}
use Rattle.row_list.specs.Rows.{first_size, first_row, later_rows, rows_from, rows_of}

pub rows_none : (n : ℕ) → rows_from n [] ≡ Ok []
rows_none zero = refl
rows_none (suc n) = refl

-- bytes where no row is left to be taken; a row that is cut; a row and what follows it
pub rows_full : (s : List ℕ) → 0 < length s → rows_from 0 s ≡ Err BadList
rows_full s h = rw (ne_eqb (length s) 0 (λ e. omega (arith, e)))

pub rows_cut : (n : ℕ) (s : List ℕ) → 0 < length s → length s < 2 + first_size s → rows_from n s ≡ Err BadList
rows_cut zero s h l = rows_full s h
rows_cut (suc n) s h l = rw (ne_eqb (length s) 0 (λ e. omega (arith, e)), lt-ltb (length s) (2 + first_size s) l)

pub rows_more : (n : ℕ) (s : List ℕ) → 0 < length s → 2 + first_size s ≤ length s → rows_from (suc n) s ≡ before (first_row s) (rows_from n (later_rows s))
rows_more n s h l = rw (ne_eqb (length s) 0 (λ e. omega (arith, e)), le-ltb (length s) (2 + first_size s) l)

-- ---- a list that is whole

-- the first row from `at` on, and that the rest is whole
pub record NextRow (n : ℕ) (s : List ℕ) (at : ℕ) (rs : List (List ℕ)) : Type 0 where
  pub some : 0 < n
  pub rest : List (List ℕ)
  pub is-more : rs ≡ first_row (drop at s) ∷ rest
  pub inside : at + (2 + first_size (drop at s)) ≤ length s
  pub later : rows_from (n - 1) (drop (at + (2 + first_size (drop at s))) s) ≡ Ok rest

module _ (s : List ℕ) (at : ℕ) (h : at < length s) where
  left : 0 < length (drop at s)
  left = rw length-drop (omega arith)

  followed : (n : ℕ) {rs : List (List ℕ)} → 2 + first_size (drop at s) ≤ length (drop at s) → (x : Result (List (List ℕ))) → rows_from n (later_rows (drop at s)) ≡ x → before (first_row (drop at s)) x ≡ Ok rs → NextRow (suc n) s at rs
  followed n l (Err q) i j = absurd (let y : ◌≡◌ {A = ℕ} 0 1 = cc in omega arith)
  followed n l (Ok rest) i j =
      let m : 2 + first_size (drop at s) ≤ length s - at = rw length-drop at l in
      let p : suc n - 1 ≡ n = omega arith in
      record {
        some = omega arith;
        rest = rest;
        is-more = (cc);
        inside = omega arith;
        later = rw (p, ← drop-drop (2 + first_size (drop at s)) at s) i;
      }

never : {A : Type 0} {P : Type 0} {x : A} → Err BadList ≡ Ok x → P
never z = absurd (let y : ◌≡◌ {A = ℕ} 0 1 = cc in omega arith)

pub next_row : {n : ℕ} {s : List ℕ} {at : ℕ} {rs : List (List ℕ)} → rows_from n (drop at s) ≡ Ok rs → at < length s → NextRow n s at rs
next_row {n = zero} {s = s} {at = at} e h = never (sym (rows_full (drop at s) (left s at h)) ∙ e)
next_row {n = suc n} {s = s} {at = at} e h =
    cases (length (drop at s)) (2 + first_size (drop at s)) (λ q. never (sym (rows_cut (suc n) (drop at s) (left s at h) q) ∙ e))
    (λ q. followed s at h n q (rows_from n (later_rows (drop at s))) refl (sym (rows_more n (drop at s) (left s at h) q) ∙ e))

pub no_row : (n : ℕ) (s : List ℕ) (at : ℕ) {rs : List (List ℕ)} → rows_from n (drop at s) ≡ Ok rs → length s ≤ at → rs ≡ []
no_row n s at {rs} e h = let z : Ok [] ≡ Ok rs = sym (rows_none n) ∙ rw (drop_of_length-le s {i = at} h) at e in cc

-- within the limit of bytes
pub rows-within : (most : ℕ) (s : List ℕ) {rs : List (List ℕ)} → rows_of most s ≡ Ok rs → (length s ≤ 32768) × (rows_from most s ≡ Ok rs)
rows-within most s {rs} e = cases 32768 (length s) (λ h. never (sym (ap (λ (t : Bool). cond t (Err BadList) (rows_from most s)) (lt-ltb 32768 (length s) h)) ∙ e)) (λ h. (h, sym (ap (λ (t : Bool). cond t (Err BadList) (rows_from most s)) (le-ltb 32768 (length s) h)) ∙ e))
