-- Zeroing by places: the bytes of the slots of null fixed columns are zero, every other byte is as it was.
use Prim.Native.Nat.{ℕ, zero, suc, ◌+◌, ◌-◌, ◌≤◌, ◌<◌}
use mathlib.Core.Path.{◌≡◌, refl, sym, ap, ◌∙◌, subst}
use mathlib.Core.Bool.{true}
use mathlib.Core.List.{List, [], ◌∷◌, ◌++◌}
use native.Mathlib.Nat.{add-zero, zero-add, mod-lt}
use native.Mathlib.Omega.{arith}
use lib.ListN.{length, get_or, take, drop, replicate, length-append, length-drop, length-replicate}
use lib.ListN.{get_or-replicate, get_or-append}
use lib.Seq.{length-take-le, get_or-take, get_or-drop, get_or-append-add}
use Rattle.laws.specs.Bits.{bit_at}
use Rattle.laws.proofs.Truths.{cases}
use Rattle.row_format.specs.declared.Shape.{Shape}
use Rattle.row_format.specs.declared.Shape.TheVariants.{Fixed, Varlen}
use Rattle.row_format.specs.Places.{varlens, bitmap_start, fixed_start, fixed_size, slot_after, slot_start, minimum}
use Rattle.row_format.specs.Row.{slot_size}
use Rattle.row_format.specs.Zeroed.{zeroed_slot, zeroed_from, zeroed_row, InNullSlot, ZeroedSlots}
use Rattle.row_format.proofs.Places.{packed-cons}

-- an element behind a front of n
behind : (x y : List ℕ) (n j : ℕ) → length x ≡ n → n ≤ j → get_or (x ++ y) j 0 ≡ get_or y (j - n) 0
behind x y n j e h =
    let seam : length x + (j - n) ≡ j = rw e (omega arith) in
    subst (λ (k : ℕ). get_or (x ++ y) k 0 ≡ get_or y (j - n) 0) seam (get_or-append-add x y (j - n) 0)

-- ---- where packed slots start

slot-here : (s : Shape) (at : ℕ) → slot_after true s at ≡ at
slot-here (Fixed z a) at = refl
slot-here Varlen at = refl

start-cons : (s : Shape) (ss : List Shape) (k : ℕ) → slot_start true (s ∷ ss) (suc k) ≡ slot_size s + slot_start true ss k
start-cons s ss k =
    let t = get_or ss k Varlen in
    slot-here t (fixed_size true (s ∷ take k ss)) ∙ packed-cons s (take k ss)
    ∙ ap (λ (n : ℕ). slot_size s + n) (sym (slot-here t (fixed_size true (take k ss))))

-- ---- one slot

slot-long : (b z : ℕ) (x : List ℕ) → length x ≡ z → length (zeroed_slot b z x) ≡ z
slot-long zero z x e = e
slot-long (suc b) z x e = length-replicate {A = ℕ} z 0

slot_same : (b z : ℕ) (x : List ℕ) → b < 2 → (b ≡ 1 → ⊥) → zeroed_slot b z x ≡ x
slot_same zero z x h n = refl
slot_same (suc zero) z x h n = absurd (n refl)
slot_same (suc (suc b)) z x h n = absurd (omega arith)

-- ---- all slots, from that of column i on

module _ (bits : List ℕ) where
  -- byte j, counted from the first slot, lies in the slot of the k-th of these columns, whose bit says null
  pub record InSlot (i : ℕ) (ss : List Shape) (k j : ℕ) : Type 0 where
    pub inside : k < length ss
    pub null : bit_at (i + k) bits ≡ 1
    pub from : slot_start true ss k ≤ j
    pub before : j < slot_start true ss k + slot_size (get_or ss k Varlen)

  -- counted from the next column's slot
  slot_rest : (i : ℕ) (s : Shape) (ss : List Shape) (k j : ℕ) → InSlot i (s ∷ ss) (suc k) j
      → InSlot (suc i) ss k (j - slot_size s)
  slot_rest i s ss k j h =
      let e = start-cons s ss k in
      let n : suc i + k ≡ i + suc k = omega arith in
      record {
        inside = omega arith;
        null = ap (λ (m : ℕ). bit_at m bits) n ∙ h.null;
        from = omega arith;
        before = omega arith;
      }

  slot_next : (i : ℕ) (s : Shape) (ss : List Shape) (k j : ℕ) → slot_size s ≤ j → InSlot (suc i) ss k (j - slot_size s)
      → InSlot i (s ∷ ss) (suc k) j
  slot_next i s ss k j g h =
      let e = start-cons s ss k in
      let n : i + suc k ≡ suc i + k = omega arith in
      record {
        inside = omega arith;
        null = ap (λ (m : ℕ). bit_at m bits) n ∙ h.null;
        from = omega arith;
        before = omega arith;
      }

  slot_first : (i : ℕ) (s : Shape) (ss : List Shape) (j : ℕ) → bit_at i bits ≡ 1 → j < slot_size s
      → InSlot i (s ∷ ss) 0 j
  slot_first i s ss j b l =
      let e = slot-here s 0 in
      record { inside = omega arith; null = rw add-zero b; from = omega arith; before = omega arith }

  -- the first of them, and room for the rest
  module _ (i : ℕ) (s : Shape) (ss : List Shape) (r : List ℕ) (room : fixed_size true (s ∷ ss) ≤ length r) where
    abbrev first : List ℕ
    first = zeroed_slot (bit_at i bits) (slot_size s) (take (slot_size s) r)

    first_long : length first ≡ slot_size s
    first_long =
        slot-long (bit_at i bits) (slot_size s) (take (slot_size s) r)
        (length-take-le (slot_size s) r (omega (arith, packed-cons s ss)))

    rest_room : fixed_size true ss ≤ length (drop (slot_size s) r)
    rest_room = rw length-drop (omega (arith, packed-cons s ss))

  from-long : (i : ℕ) (ss : List Shape) (r : List ℕ) → fixed_size true ss ≤ length r
      → length (zeroed_from bits i ss r) ≡ length r
  from-long i [] r room = refl
  from-long i (s ∷ ss) r room =
      let e = from-long (suc i) ss (drop (slot_size s) r) (rest_room i s ss r room) in
      rw (length-append, first_long i s ss r room, e, length-drop)
      (omega (arith, packed-cons s ss))

  from-zeros : (i : ℕ) (ss : List Shape) (r : List ℕ) → fixed_size true ss ≤ length r → (k j : ℕ) → InSlot i ss k j
      → get_or (zeroed_from bits i ss r) j 0 ≡ 0
  from-zeros i [] r room k j h = absurd (omega arith)
  from-zeros i (s ∷ ss) r room zero j h =
      let bit : bit_at i bits ≡ 1 = rw add-zero at h.null in
      let l : j < slot_size s = omega (arith, slot-here s 0) in
      rw bit
      (get_or-append (replicate (slot_size s) 0) _ 0 j (rw length-replicate l) ∙ get_or-replicate (slot_size s) j 0 0 l)
  from-zeros i (s ∷ ss) r room (suc k) j h =
      behind (first i s ss r room) _ (slot_size s) j (first_long i s ss r room) (omega (arith, start-cons s ss k))
      ∙ from-zeros (suc i) ss (drop (slot_size s) r) (rest_room i s ss r room) k (j - slot_size s)
      (slot_rest i s ss k j h)

  from-others : (i : ℕ) (ss : List Shape) (r : List ℕ) → fixed_size true ss ≤ length r → (j : ℕ)
      → ((k : ℕ) → InSlot i ss k j → ⊥) → get_or (zeroed_from bits i ss r) j 0 ≡ get_or r j 0
  from-others i [] r room j out = refl
  from-others i (s ∷ ss) r room j out =
      cases j (slot_size s)
      (λ l.
      let clear : bit_at i bits ≡ 1 → ⊥ = λ b. out 0 (slot_first i s ss j b l) in
      let same = slot_same (bit_at i bits) (slot_size s) (take (slot_size s) r) (mod-lt _ (omega arith)) clear in
      get_or-append (first i s ss r room) _ 0 j (rw (first_long i s ss r room) l)
      ∙ ap (λ (x : List ℕ). get_or x j 0) same ∙ get_or-take (slot_size s) r j 0 l)
      (λ g.
      let there : slot_size s + (j - slot_size s) ≡ j = omega arith in
      behind (first i s ss r room) _ (slot_size s) j (first_long i s ss r room) g
      ∙ from-others (suc i) ss (drop (slot_size s) r) (rest_room i s ss r room) (j - slot_size s)
      (λ k h. out (suc k) (slot_next i s ss k j g h))
      ∙ get_or-drop (slot_size s) r (j - slot_size s) 0 ∙ rw there)

-- ---- the row

module _ (w : ℕ) (ss : List Shape) (r : List ℕ) (room : minimum w true ss ≤ length r) where
  abbrev start : ℕ
  start = fixed_start w (length ss) (varlens ss)

  abbrev bits : List ℕ
  bits = drop bitmap_start r

  front_long : length (take start r) ≡ start
  front_long = length-take-le start r (omega arith)

  slots_room : fixed_size true ss ≤ length (drop start r)
  slots_room = rw length-drop (omega arith)

  row-slot : (k j : ℕ) → start ≤ j → InSlot bits 0 ss k (j - start) → InNullSlot w ss r j
  row-slot k j g h =
      let bit = rw zero-add at h.null in
      record { column = k; inside = h.inside; null = bit; from = omega arith; before = omega arith }

  pub zeroed-places : ZeroedSlots w ss r (zeroed_row w ss r)
  unfolding zeroed_row
  zeroed-places =
      record {
        long =
            let e = from-long bits 0 ss (drop start r) slots_room in
            rw (length-append, front_long, e, length-drop) (omega arith);
        zeros = λ j h.
            behind (take start r) _ start j front_long (omega arith)
            ∙ from-zeros bits 0 ss (drop start r) slots_room h.column (j - start)
            (record { inside = h.inside; null = rw zero-add h.null; from = omega arith; before = omega arith });
        others = λ j out.
            cases j start
            (λ l. get_or-append (take start r) _ 0 j (rw front_long l) ∙ get_or-take start r j 0 l)
            (λ g.
            let there : start + (j - start) ≡ j = omega arith in
            behind (take start r) _ start j front_long g
            ∙ from-others bits 0 ss (drop start r) slots_room (j - start)
            (λ k h. out (row-slot k j g h))
            ∙ get_or-drop start r (j - start) 0 ∙ rw there);
      }
