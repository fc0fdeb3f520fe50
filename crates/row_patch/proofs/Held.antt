-- A row held in a buffer: its bytes replaced by others, and stores in the row alone.
use Prim.Native.Nat.{ℕ, ◌+◌, ◌-◌, ◌≤◌}
use mathlib.Core.Path.{◌≡◌, sym, ap, ◌∙◌}
use mathlib.Core.List.{List, ◌++◌, append_assoc}
use native.Mathlib.Nat.{add-zero}
use native.Mathlib.Omega.{arith}
use lib.ListN.{length, take, drop, length-append, length-drop}
use lib.Seq.{sets, length-sets, take_at, drop_at, take-take, drop-drop, length-take-le}
use Rattle.laws.specs.Bytes.{splice}
use Rattle.laws.proofs.Bytes.{length-splice}
use Rattle.laws.proofs.Stores.{sets-append, sets-splice, sets_comm}
use Rattle.laws.proofs.Parts.{part-all}
use Rattle.laws.proofs.Lent.{drop-take, lent_stores}
use Rattle.row_patch.specs.InnerHeld.{held}
use Rattle.row_patch.specs.InnerStores.{change, Replaceable}

module _ {n a e z : ℕ} {b : List ℕ} (h : Replaceable (change n a e z) b) (bs : List ℕ) (size : length bs ≡ z) where
  abbrev tail : List ℕ
  tail = take (n - e) (drop e b)

  row-length : length (take n b) ≡ n
  row-length = length-take-le n b h.inside

  length_tail : length tail ≡ n - e
  length_tail = length-take-le (n - e) (drop e b) (rw length-drop (omega (arith, h.within, h.inside)))

  pub length_spliced : length (splice a e bs (take n b)) ≡ a + z + (n - e)
  length_spliced = length-splice a e bs (take n b) h.range (rw row-length h.within) ∙ rw (row-length, size) (omega (arith, h.range, h.within))

  -- the tail moved, and then the new bytes stored
  pub replaced : sets (sets b (a + z) tail) a bs ≡ held b (splice a e bs (take n b))
  replaced =
      let n₁ : length (bs ++ tail) ≡ z + (n - e) = rw (length-append, size, length_tail) in
      let low : a ≤ n = omega (arith, h.range, h.within) in
      let all : a + (z + (n - e)) ≡ a + z + (n - e) = omega arith in
      let stored : sets (sets b (a + z) tail) a bs ≡ sets b a (bs ++ tail)
      = sym (sets_comm b a (a + z) bs tail (omega (arith, size))) ∙ rw (← size) (sym (sets-append b a bs tail)) in
      stored ∙ sets-splice b a (bs ++ tail) (rw n₁ (omega (arith, h.room))) ∙ rw (length_spliced, n₁, all, take-take a n b low, drop-take n e b h.within h.inside) (simp append_assoc)

-- x is what a callee leaves of the part that starts at a
module _ {n a e z : ℕ} {b : List ℕ} (h : Replaceable (change n a e z) b) where
  pub tail_moved : (x : List ℕ) → x ≡ sets (take (length b - a) (drop a b)) z (take (n - e) (drop (e - a) (take (length b - a) (drop a b)))) → take a b ++ (x ++ drop (length b - a) (drop a b)) ≡ sets b (a + z) (take (n - e) (drop e b))
  tail_moved x d =
      let at : a + (e - a) ≡ e = omega (arith, h.range) in
      let low : a ≤ length b = omega (arith, h.range, h.within, h.inside) in
      let same : take (n - e) (drop (e - a) (take (length b - a) (drop a b))) ≡ take (n - e) (drop e b) = rw (part-all b a, drop-drop, at) in
      lent_stores b a z (take (n - e) (drop e b)) x low (d ∙ rw same)

  -- q is the buffer after the tail was moved
  module _ (bs : List ℕ) (size : length bs ≡ z) (q : List ℕ) (d : q ≡ sets b (a + z) (take (n - e) (drop e b))) where
    same_length : length q ≡ length b
    same_length = ap length d ∙ length-sets b (a + z) (take (n - e) (drop e b))

    pub form-fits : 0 + length bs ≤ length (take (length q - a) (drop a q))
    form-fits = rw (part-all q a, length-drop, same_length, size) (omega (arith, h.room))

    pub form-stored : (x : List ℕ) → x ≡ sets (take (length q - a) (drop a q)) 0 bs → take a q ++ (x ++ drop (length q - a) (drop a q)) ≡ held b (splice a e bs (take n b))
    form-stored x c =
        let low : a ≤ length q = omega (arith, h.range, h.within, h.inside, same_length) in
        lent_stores q a 0 bs x low c ∙ rw (add-zero, d) (replaced h bs size)

-- q is the buffer, m the length of its row, and x what a callee leaves of the row
module _ (b r q : List ℕ) (m : ℕ) (d : q ≡ held b r) (n : length r ≡ m) where
  pub row_of : take m q ≡ r
  row_of = rw d (take_at r (drop (length r) b) m n)

  pub held_again : (x : List ℕ) → length x ≡ m → x ++ drop m q ≡ held b x
  held_again x l = let past : drop m q ≡ drop m b = rw d (drop_at r (drop (length r) b) m n ∙ rw n) in rw (past, l)
