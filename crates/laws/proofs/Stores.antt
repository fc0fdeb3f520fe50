-- Runs of stores, `sets l i vs`: cut in two, one store beside them, and as bytes replaced; and a turn of each loop that copies, fills or moves.
use Prim.Native.Nat.{ℕ, suc, ◌+◌, ◌-◌, ◌≤◌, ◌<◌}
use mathlib.Core.Path.{◌≡◌, refl, sym, ap, ◌∙◌}
use mathlib.Core.List.{List, [], ◌∷◌, ◌++◌, append_assoc}
use native.Mathlib.Nat.{add-zero, add-suc}
use native.Mathlib.Numerals.{add-one}
use native.Mathlib.Omega.{arith}
use lib.ListN.{length, get_or, set, take, drop, replicate, length-append, length-drop, take-append-drop, length-set, drop_of_length-le}
use lib.Seq.{sets, sets-eq, set_comm, set-append_left, take-append_seam, drop-append-add, drop-drop, drop-cons, take-suc, drop-set-lt, drop-set-add, take-set-le, get_or-drop, length-take-le}
use Rattle.laws.specs.Bytes.{splice}

pub sets-append : (l : List ℕ) (i : ℕ) (xs ys : List ℕ) → sets l i (xs ++ ys) ≡ sets (sets l i xs) (i + length xs) ys
sets-append l i [] ys = rw add-zero
sets-append l i (x ∷ xs) ys = let e : suc i + length xs ≡ i + suc (length xs) = omega arith in sets-append (set l i x) (suc i) xs ys ∙ rw e

-- two runs of stores, the second where the first ended
pub sets_then : (l : List ℕ) (i n : ℕ) (xs ys : List ℕ) {p q : List ℕ} → length xs ≡ n → p ≡ sets l i xs → q ≡ sets p (i + n) ys → q ≡ sets l i (xs ++ ys)
sets_then l i n xs ys e f g = g ∙ rw (f, ← e) (sym (sets-append l i xs ys))

pub sets-splice : (l : List ℕ) (i : ℕ) (vs : List ℕ) → i + length vs ≤ length l → sets l i vs ≡ splice i (i + length vs) vs l
sets-splice l i vs h = sets-eq vs l i h ∙ append_assoc (take i l) vs (drop (i + length vs) l)

-- in a list of two parts: inside the first, and from its end on
pub sets-left : (l m : List ℕ) (i : ℕ) (vs : List ℕ) → i + length vs ≤ length l → sets (l ++ m) i vs ≡ sets l i vs ++ m
sets-left l m i [] h = refl
sets-left l m i (v ∷ vs) h =
    let k : i < length l = omega arith in
    rw (set-append_left l m i v k) (sets-left (set l i v) m (suc i) vs (rw length-set (omega arith)))

pub sets_end : (l m : List ℕ) (n : ℕ) (vs : List ℕ) → length l ≡ n → length vs ≤ length m → sets (l ++ m) n vs ≡ l ++ (vs ++ drop (length vs) m)
sets_end l m n vs e h =
    sets-splice (l ++ m) n vs (rw (length-append, e) (omega arith)) ∙ rw (← e, take-append_seam, drop-append-add)

-- over the start of a longer list
pub sets-start : (l vs : List ℕ) → length vs ≤ length l → sets l 0 vs ≡ vs ++ drop (length vs) l
sets-start l vs h = sets_end [] l 0 vs refl h

-- a store past the others may come first
sets-set : (l : List ℕ) (i j v : ℕ) (vs : List ℕ) → i + length vs ≤ j → set (sets l i vs) j v ≡ sets (set l j v) i vs
sets-set l i j v [] h = refl
sets-set l i j v (x ∷ vs) h = sets-set (set l i x) (suc i) j v vs (omega arith) ∙ ap (λ (k : List ℕ). sets k (suc i) vs) (set_comm l i j x v (λ e. omega (arith, e)))

-- and so may a run of them
pub sets_comm : (l : List ℕ) (i j : ℕ) (xs ys : List ℕ) → i + length xs ≤ j → sets (sets l i xs) j ys ≡ sets (sets l j ys) i xs
sets_comm l i j xs [] h = refl
sets_comm l i j xs (y ∷ ys) h = rw (sets-set l i j y xs h) (sets_comm (set l j y) i (suc j) xs ys (omega arith))

-- the m elements from `at` on, stored where they stand; and with one of them changed
module _ (s : List ℕ) (at m : ℕ) (h : at + m ≤ length s) where
  part_length : length (take m (drop at s)) ≡ m
  part_length = length-take-le m (drop at s) (rw length-drop (omega arith))

  pub sets_self : sets s at (take m (drop at s)) ≡ s
  sets_self =
      sets-splice s at (take m (drop at s)) (rw part_length h) ∙ rw (part_length, ← drop-drop m at s, take-append-drop m (drop at s)) (take-append-drop at s)

  pub part-set : (k v : ℕ) → k < m → set s (at + k) v ≡ sets s at (set (take m (drop at s)) k v)
  part-set k v l =
      let bs : List ℕ = take m (drop at s) in
      let n : length (set bs k v) ≡ m = length-set bs k v ∙ part_length in
      let inner : set (drop at s) k v ≡ set bs k v ++ drop (at + m) s
      = ap (λ (d : List ℕ). set d k v) (sym (take-append-drop m (drop at s))) ∙ set-append_left bs (drop m (drop at s)) k v (rw part_length l) ∙ rw drop-drop in
      sym (take-append-drop at (set s (at + k) v)) ∙ rw (take-set-le at s (at + k) v (omega arith), drop-set-add, inner) (sym (sets-splice s at (set bs k v) (rw n h) ∙ rw n))

-- the loop that copies s to `at`: what is left of s, stored on what was done
pub copied : (d s : List ℕ) (at i : ℕ) → i < length s → sets (set d (at + i) (get_or s i 0)) (at + (i + 1)) (drop (i + 1) s) ≡ sets d (at + i) (drop i s)
copied d s at i h = rw (add-one, add-suc, drop-cons s i 0 h)

pub copied_all : (d s : List ℕ) (at i : ℕ) → length s ≤ i → sets d (at + i) (drop i s) ≡ d
copied_all d s at i h = rw (drop_of_length-le s h)

-- the loop that fills n elements from `at` with b
pub filled : (d : List ℕ) (at n i b : ℕ) → i < n → sets (set d (at + i) b) (at + (i + 1)) (replicate (n - (i + 1)) b) ≡ sets d (at + i) (replicate (n - i) b)
filled d at n i b h = let e : n - i ≡ suc (n - (i + 1)) = omega arith in rw (e, add-one, add-suc)

pub filled_all : (d : List ℕ) (at n i b : ℕ) → n ≤ i → sets d (at + i) (replicate (n - i) b) ≡ d
filled_all d at n i b h = let e : n - i ≡ 0 = omega arith in rw e

-- the loop that moves n elements from f down to t, the first one first
pub moved_down : (d : List ℕ) (f t n i : ℕ) → t ≤ f → i < n → f + n ≤ length d
    → let q = set d (t + i) (get_or d (f + i) 0) in sets q (t + (i + 1)) (take (n - (i + 1)) (drop (f + (i + 1)) q)) ≡ sets d (t + i) (take (n - i) (drop (f + i) d))
moved_down d f t n i h l k =
    let e : n - i ≡ suc (n - (i + 1)) = omega arith in
    let a : f + i < length d = omega arith in
    let s : t + i < suc (f + i) = omega arith in
    rw (e, drop-cons d (f + i) 0 a, add-one, add-suc t i, add-suc f i, drop-set-lt (suc (f + i)) d (t + i) (get_or d (f + i) 0) s)

pub moved_all : (d : List ℕ) (f t n i : ℕ) → n ≤ i → sets d (t + i) (take (n - i) (drop (f + i) d)) ≡ d
moved_all d f t n i h = let e : n - i ≡ 0 = omega arith in rw e

-- the loop that moves elements from f up to t, the last one first: element i is stored, and i are left
pub moved_up : (d : List ℕ) (f t i : ℕ) → f ≤ t → f + i < length d
    → let q = set d (t + i) (get_or d (f + i) 0) in sets q t (take i (drop f q)) ≡ sets d t (take (i + 1) (drop f d))
moved_up d f t i h k =
    let v : ℕ = get_or d (f + i) 0 in
    let l : List ℕ = take i (drop f d) in
    let n : length l ≡ i = length-take-le i (drop f d) (rw length-drop (omega arith)) in
    let e : t + i ≡ f + (t - f + i) = omega arith in
    let same : take i (drop f (set d (t + i) v)) ≡ l = ap (λ (j : ℕ). take i (drop f (set d j v))) e ∙ rw drop-set-add (take-set-le i (drop f d) (t - f + i) v (omega arith)) in
    let last : take (i + 1) (drop f d) ≡ l ++ (v ∷ []) = rw add-one (take-suc (drop f d) i 0 (rw length-drop (omega arith)) ∙ rw get_or-drop) in
    rw (same, last, sets-append, n) (sym (sets-set d t (t + i) v l (omega arith)))
