-- The bytes of lines.
use Prim.Native.Nat.{ℕ, ◌+◌}
use mathlib.Core.Path.{◌≡◌}
use mathlib.Core.Bool.{Bool}
use mathlib.Core.List.{List, [], ◌∷◌, map}
use native.Mathlib.Omega.{arith}
use lib.ListN.{length, length-append}
use Rattle.laws.specs.Bytes.{concat}
use Rattle.laws.proofs.Truths.{by_cond}
use Rattle.occupation_list.specs.Ordered.{inserted}

-- one more among them, wherever it is put
pub length_inserted : {A : Type 0} (lt : A → A → Bool) (g : A → List ℕ) (x : A) (ys : List A) → length (concat (map g (inserted lt x ys))) ≡ length (concat (map g ys)) + length (g x)
length_inserted lt g x [] = rw length-append (omega arith)
length_inserted {A} lt g x (y ∷ ys) =
    by_cond (λ (l : List A). length (concat (map g l)) ≡ length (concat (map g (y ∷ ys))) + length (g x)) (lt x y) (x ∷ (y ∷ ys)) (y ∷ inserted lt x ys) (λ e. simp length-append (omega arith))
    (λ e. simp (length-append, length_inserted lt g x ys) (omega arith))
