-- A table of numbers cut at an entry, and the bytes of a table read and written again.
use Prim.Native.Nat.{ℕ, zero, suc, ◌+◌, ◌*◌, ◌-◌, ◌≤◌}
use mathlib.Core.Path.{◌≡◌, refl, sym, ap, ◌∙◌}
use mathlib.Core.List.{List, ◌∷◌, ◌++◌}
use native.Mathlib.Nat.{zero-mul, sub-zero}
use native.Mathlib.Omega.{arith}
use lib.ListN.{length, take, drop, length-drop, take-append-drop}
use lib.Seq.{sets, take-add, drop-drop, length-take-le, take-append-le, drop-append-le}
use Rattle.laws.specs.Bytes.{to_le, from_le, to_table, from_table, splice}
use Rattle.laws.proofs.Bytes.{Below, below-drop, below-take, AllBytes, all-below, to_from}
use Rattle.laws.proofs.Stores.{sets_self}

-- a number that was read, stored again
pub stored_again : (w at : ℕ) (r : List ℕ) → AllBytes r → at + w ≤ length r → sets r at (to_le w (from_le (take w (drop at r)))) ≡ r
stored_again w at r a h =
    let bs : List ℕ = take w (drop at r) in
    let n : length bs ≡ w = length-take-le w (drop at r) (rw length-drop (omega arith)) in
    let same : to_le w (from_le bs) ≡ bs = ap (λ (k : ℕ). to_le k (from_le bs)) (sym n) ∙ to_from bs (below-take 256 w (drop at r) (below-drop 256 at r (all-below r a))) in
    rw same (sets_self r at w h)

pub table-take : (w v k : ℕ) (t : List ℕ) → k ≤ v → take k (from_table w v t) ≡ from_table w k t
table-take w v zero t h = refl
table-take w zero (suc k) t h = absurd (omega arith)
table-take w (suc v) (suc k) t h = ap (λ (l : List ℕ). from_le (take w t) ∷ l) (table-take w v k (drop w t) (omega arith))

pub table-drop : (w v k : ℕ) (t : List ℕ) → k ≤ v → drop k (from_table w v t) ≡ from_table w (v - k) (drop (k * w) t)
table-drop w v zero t h = rw (zero-mul w, sub-zero v)
table-drop w zero (suc k) t h = absurd (omega arith)
table-drop w (suc v) (suc k) t h =
    let e : w + k * w ≡ suc k * w = omega arith in
    let n : suc v - suc k ≡ v - k = omega arith in
    table-drop w v k (drop w t) (omega arith) ∙ rw (drop-drop, e, n)

-- bytes that were read are written again
pub table_to_from : (w v : ℕ) (t : List ℕ) → Below 256 t → v * w ≤ length t → to_table w (from_table w v t) ≡ take (v * w) t
table_to_from w zero t b h = rw (zero-mul w)
table_to_from w (suc v) t b h =
    let e : suc v * w ≡ w + v * w = omega arith in
    let n : length (take w t) ≡ w = length-take-le w t (omega arith) in
    let first : to_le w (from_le (take w t)) ≡ take w t = ap (λ (k : ℕ). to_le k (from_le (take w t))) (sym n) ∙ to_from (take w t) (below-take 256 w t b) in
    rw (e, take-add, first, table_to_from w v (drop w t) (below-drop 256 w t b) (rw length-drop (omega arith)))

-- in the first of two parts
table-left : (w v : ℕ) (p q : List ℕ) → v * w ≤ length p → from_table w v (p ++ q) ≡ from_table w v p
table-left w zero p q h = refl
table-left w (suc v) p q h =
    let l : w ≤ length p = omega arith in
    rw (take-append-le w p q l, drop-append-le w p q l, table-left w v (drop w p) q (rw length-drop (omega arith)))

-- bytes replaced behind it leave it
pub table_before : (w t v a e : ℕ) (bs r : List ℕ) → t + v * w ≤ a → a ≤ length r → from_table w v (drop t (splice a e bs r)) ≡ from_table w v (drop t r)
table_before w t v a e bs r h k =
    let n : length (take a r) ≡ a = length-take-le a r k in
    let l : t ≤ length (take a r) = omega (arith, n) in
    let part : (q : List ℕ) → from_table w v (drop t (take a r ++ q)) ≡ from_table w v (drop t (take a r))
    = λ q. rw (drop-append-le t (take a r) q l) (table-left w v (drop t (take a r)) q (rw (length-drop, n) (omega arith))) in
    part (bs ++ drop e r) ∙ sym (part (drop a r)) ∙ rw take-append-drop
