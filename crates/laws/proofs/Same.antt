-- Whether two lists are the same: what the answer says, and the loop that compares them.
use Prim.Native.Nat.{ℕ, zero, suc, ◌+◌, ◌≤◌, ◌<◌}
use mathlib.Core.Path.{◌≡◌, refl, sym, ap, ◌∙◌}
use mathlib.Core.Bool.{Bool, true, false, ◌&&◌, false≢true}
use mathlib.Core.List.{List, [], ◌∷◌, ◌++◌}
use native.Mathlib.Numerals.{add-one}
use native.Mathlib.Omega.{arith}
use lib.Dec.{eqb}
use lib.ListN.{length, get_or, take, drop, length-drop, drop_of_length-le}
use lib.Seq.{drop-cons, drop-drop}
use borrow.Author.Tests.{eq-eqb, ne_eqb, eqb-true}
use Rattle.laws.specs.Bytes.{from_le, same_bytes}
use Rattle.laws.proofs.Truths.{and_left, and_right}
use Rattle.laws.proofs.Bytes.{Below, below-drop, AllBytes, all-below}

pub same_self : (xs : List ℕ) → same_bytes xs xs ≡ true
same_self [] = refl
same_self (x ∷ xs) = rw (eq-eqb x x refl, same_self xs)

pub same-eq : (xs ys : List ℕ) → same_bytes xs ys ≡ true → xs ≡ ys
same-eq [] [] e = refl
same-eq [] (y ∷ ys) e = absurd (false≢true e)
same-eq (x ∷ xs) [] e = absurd (false≢true e)
same-eq (x ∷ xs) (y ∷ ys) e =
    rw (eqb-true x y (and_left (eqb x y) (same_bytes xs ys) e), same-eq xs ys (and_right (eqb x y) (same_bytes xs ys) e))

pub same_lengths : (xs ys : List ℕ) → (length xs ≡ length ys → ⊥) → same_bytes xs ys ≡ false
same_lengths [] [] n = absurd (n refl)
same_lengths [] (y ∷ ys) n = refl
same_lengths (x ∷ xs) [] n = refl
same_lengths (x ∷ xs) (y ∷ ys) n = rw (same_lengths xs ys (λ e. n (ap suc e))) (and_no (eqb x y))
  where
    and_no : (b : Bool) → (b && false) ≡ false
    and_no true = refl
    and_no false = refl

-- two parts of equal length each
pub same-append : (xs ys us vs : List ℕ) → length xs ≡ length ys → same_bytes (xs ++ us) (ys ++ vs) ≡ (same_bytes xs ys && same_bytes us vs)
same-append [] [] us vs e = refl
same-append [] (y ∷ ys) us vs e = absurd (omega arith)
same-append (x ∷ xs) [] us vs e = absurd (omega arith)
same-append (x ∷ xs) (y ∷ ys) us vs e = rw (same-append xs ys us vs (omega arith)) (and_assoc (eqb x y) (same_bytes xs ys) (same_bytes us vs))
  where
    and_assoc : (a b c : Bool) → (a && (b && c)) ≡ ((a && b) && c)
    and_assoc true b c = refl
    and_assoc false b c = refl

-- two lists of bytes whose first w hold one number
same_number_lem : (w : ℕ) (xs ys : List ℕ) → Below 256 xs → Below 256 ys → w ≤ length xs → w ≤ length ys
    → from_le (take w xs) ≡ from_le (take w ys) → same_bytes (drop w xs) (drop w ys) ≡ same_bytes xs ys
same_number_lem zero xs ys b c h k e = refl
same_number_lem (suc w) [] ys b c h k e = absurd (omega arith)
same_number_lem (suc w) (x ∷ xs) [] b c h k e = absurd (omega arith)
same_number_lem (suc w) (x ∷ xs) (y ∷ ys) b c h k e =
    let f : x < 256 = b.0 in
    let g : y < 256 = c.0 in
    let low : x ≡ y = omega arith in
    let high : from_le (take w xs) ≡ from_le (take w ys) = omega arith in
    rw (eq-eqb x y low) (same_number_lem w xs ys b.1 c.1 (omega arith) (omega arith) high)

-- ---- the loop: the lists are the same if what is left of them is

pub record Comparing (xs ys : List ℕ) (i : ℕ) : Type 0 where
  pub lengths : length xs ≡ length ys
  pub within : i ≤ length xs
  pub rest : same_bytes (drop i xs) (drop i ys) ≡ same_bytes xs ys

module _ {xs ys : List ℕ} where
  pub compare_start : length xs ≡ length ys → Comparing xs ys 0
  compare_start e = record { lengths = e; within = omega arith; rest = refl }

module _ {xs ys : List ℕ} {i : ℕ} (k : Comparing xs ys i) where
  cut : i < length xs → (eqb (get_or xs i 0) (get_or ys i 0) && same_bytes (drop (suc i) xs) (drop (suc i) ys)) ≡ same_bytes xs ys
  cut h =
      let l : i < length ys = rw (← k.lengths) h in
      sym (ap (λ (l : List ℕ). same_bytes l (drop i ys)) (drop-cons xs i 0 h) ∙ ap (same_bytes (get_or xs i 0 ∷ drop (suc i) xs)) (drop-cons ys i 0 l)) ∙ k.rest

  pub compare_more : i < length xs → get_or xs i 0 ≡ get_or ys i 0 → Comparing xs ys (i + 1)
  compare_more h e =
      let t : eqb (get_or xs i 0) (get_or ys i 0) ≡ true = eq-eqb (get_or xs i 0) (get_or ys i 0) e in
      record { lengths = k.lengths; within = omega arith; rest = rw add-one (rw t at (cut h)) }

  -- w bytes at once
  pub compare_number : AllBytes xs → AllBytes ys → (w : ℕ) → i + w ≤ length xs
      → from_le (take w (drop i xs)) ≡ from_le (take w (drop i ys)) → Comparing xs ys (i + w)
  compare_number b c w h e =
      let n =
      same_number_lem w (drop i xs) (drop i ys)
      (below-drop 256 i xs (all-below xs b)) (below-drop 256 i ys (all-below ys c))
      (rw length-drop (omega arith)) (rw (length-drop, ← k.lengths) (omega arith)) e in
      record { lengths = k.lengths; within = h; rest = rw (drop-drop w i xs, drop-drop w i ys) at n ∙ k.rest }

  pub compare_other : i < length xs → (get_or xs i 0 ≡ get_or ys i 0 → ⊥) → false ≡ same_bytes xs ys
  compare_other h n =
      let t : eqb (get_or xs i 0) (get_or ys i 0) ≡ false = ne_eqb (get_or xs i 0) (get_or ys i 0) n in
      rw t at (cut h)

  pub compare_end : length xs ≤ i → true ≡ same_bytes xs ys
  compare_end h =
      let l : length ys ≤ i = rw (← k.lengths) h in
      sym (ap (λ (l : List ℕ). same_bytes l (drop i ys)) (drop_of_length-le xs h) ∙ ap (same_bytes []) (drop_of_length-le ys l)) ∙ k.rest
