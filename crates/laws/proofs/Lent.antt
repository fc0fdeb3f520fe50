-- Stores in a part of a list that was lent on, `&mut b[at..]`; and the rest of a part.
use Prim.Native.Nat.{ℕ, suc, ◌+◌, ◌-◌, ◌≤◌}
use mathlib.Core.Path.{◌≡◌, refl, sym, ap, ◌∙◌}
use mathlib.Core.List.{List, [], ◌∷◌, ◌++◌, append-nil}
use native.Mathlib.Nat.{zero-add, suc-add, add-suc}
use native.Mathlib.Omega.{arith}
use lib.ListN.{length, set, take, drop, take-append-drop}
use lib.Seq.{sets, length-take-le, take-add, drop_at, drop-set-lt}
use Rattle.laws.proofs.Parts.{part-all, part_none}

set_right : (l m : List ℕ) (i v : ℕ) → set (l ++ m) (length l + i) v ≡ l ++ set m i v
set_right [] m i v = rw zero-add
set_right (x ∷ l) m i v = rw suc-add (ap (λ (k : List ℕ). x ∷ k) (set_right l m i v))

-- past the first of two parts
pub sets_right : (l m : List ℕ) (i : ℕ) (vs : List ℕ) → sets (l ++ m) (length l + i) vs ≡ l ++ sets m i vs
sets_right l m i [] = refl
sets_right l m i (v ∷ vs) = rw (set_right, ← add-suc) (sets_right l (set m i v) (suc i) vs)

-- what the callee leaves of the part is x
pub lent_stores : (b : List ℕ) (at i : ℕ) (vs x : List ℕ) → at ≤ length b → x ≡ sets (take (length b - at) (drop at b)) i vs → take at b ++ (x ++ drop (length b - at) (drop at b)) ≡ sets b (at + i) vs
lent_stores b at i vs x h e =
    let n : length (take at b) ≡ at = length-take-le at b h in
    rw (e, part-all b at, part_none b at, append-nil)
    (sym (ap (λ (l : List ℕ). sets l (at + i) vs) (sym (take-append-drop at b)) ∙ ap (λ (k : ℕ). sets (take at b ++ drop at b) (k + i) vs) (sym n) ∙ sets_right (take at b) (drop at b) i vs))

-- what stands past the stores
pub drop-sets : (n : ℕ) (l : List ℕ) (i : ℕ) (vs : List ℕ) → i + length vs ≤ n → drop n (sets l i vs) ≡ drop n l
drop-sets n l i [] h = refl
drop-sets n l i (v ∷ vs) h = drop-sets n (set l i v) (suc i) vs (omega arith) ∙ drop-set-lt n l i v (omega arith)

-- what is left of the first n
pub drop-take : (n e : ℕ) (l : List ℕ) → e ≤ n → n ≤ length l → drop e (take n l) ≡ take (n - e) (drop e l)
drop-take n e l h k =
    let m : n ≡ e + (n - e) = omega arith in
    ap (λ (j : ℕ). drop e (take j l)) m ∙ rw take-add (drop_at (take e l) (take (n - e) (drop e l)) e (length-take-le e l (omega arith)))
