-- Numbers carried through the columns, and the places of fixed columns: inside the fixed region, and apart from each other.
use Prim.Native.Nat.{ℕ, zero, suc, ◌+◌, ◌-◌, ◌≤◌, ◌<◌}
use mathlib.Core.Path.{◌≡◌, refl, sym, ap, ◌∙◌}
use mathlib.Core.Bool.{Bool, true, false}
use mathlib.Core.List.{List, [], ◌∷◌, ◌++◌}
use native.Mathlib.Nat.{le_refl, le_trans, div-add-mod', mod-lt, add-zero, add_assoc}
use native.Mathlib.Omega.{arith}
use lib.ListN.{length, get_or, take, drop}
use lib.Seq.{take-take}
use Rattle.row_format.specs.declared.Shape.{Shape}
use Rattle.row_format.specs.declared.Shape.TheVariants.{Fixed, Varlen}
use Rattle.row_format.specs.Places.{through, rank_after, round_up, start_at, end_after, varlens, fixed_size, rank_of, slot_after, slot_start}
use Rattle.row_format.specs.InnerAligned.{Aligned, All, none, more}
use Rattle.row_format.specs.Row.{slot_size}

-- ---- any number that is carried through the columns

module _ (f : Shape → ℕ → ℕ) where
  pub through-append : (ss ts : List Shape) (x : ℕ) → through f x (ss ++ ts) ≡ through f (through f x ss) ts
  through-append [] ts x = refl
  through-append (s ∷ ss) ts x = through-append ss ts (f s x)

  -- past column i
  pub through-next : (ss : List Shape) (i x : ℕ) → i < length ss → through f x (take (suc i) ss) ≡ f (get_or ss i Varlen) (through f x (take i ss))
  through-next [] i x h = absurd (omega arith)
  through-next (s ∷ ss) zero x h = refl
  through-next (s ∷ ss) (suc i) x h = through-next ss i (f s x) (omega arith)

  -- up to column i, and then the rest
  pub through-split : (ss : List Shape) (i x : ℕ) → through f x ss ≡ through f (through f x (take i ss)) (drop i ss)
  through-split ss zero x = refl
  through-split [] (suc i) x = refl
  through-split (s ∷ ss) (suc i) x = through-split ss i (f s x)

  -- where a column adds the same to any number
  pub through-add : ((s : Shape) (x y : ℕ) → f s (x + y) ≡ x + f s y) → (ss : List Shape) (x y : ℕ) → through f (x + y) ss ≡ x + through f y ss
  through-add adds [] x y = refl
  through-add adds (s ∷ ss) x y = rw (adds s x y) (through-add adds ss x (f s y))

pub rank_adds : (s : Shape) (x y : ℕ) → rank_after s (x + y) ≡ x + rank_after s y
rank_adds (Fixed z a) x y = refl
rank_adds Varlen x y = add_assoc x y 1

pub packed_adds : (s : Shape) (x y : ℕ) → end_after true s (x + y) ≡ x + end_after true s y
packed_adds (Fixed z a) x y = add_assoc x y z
packed_adds Varlen x y = refl

packed_first : (s : Shape) → end_after true s 0 ≡ slot_size s + 0
packed_first (Fixed z a) = omega arith
packed_first Varlen = refl

-- a column more in front
pub varlens-cons : (s : Shape) (ss : List Shape) → varlens (s ∷ ss) ≡ rank_after s 0 + varlens ss
varlens-cons s ss = let e : rank_after s 0 ≡ rank_after s 0 + 0 = sym (add-zero (rank_after s 0)) in ap (λ (x : ℕ). through rank_after x ss) e ∙ through-add rank_after rank_adds ss (rank_after s 0) 0

pub packed-cons : (s : Shape) (ss : List Shape) → fixed_size true (s ∷ ss) ≡ slot_size s + fixed_size true ss
packed-cons s ss = ap (λ (x : ℕ). through (end_after true) x ss) (packed_first s) ∙ through-add (end_after true) packed_adds ss (slot_size s) 0

-- a schema has no more Varchars than columns
ranks_le : (ss : List Shape) (k : ℕ) → through rank_after k ss ≤ k + length ss
ranks_le [] k = omega arith
ranks_le (Varlen ∷ ss) k = omega (arith, ranks_le ss (k + 1))
ranks_le (Fixed z a ∷ ss) k = omega (arith, ranks_le ss k)

pub varlens-le : (ss : List Shape) → varlens ss ≤ length ss
varlens-le ss = omega (arith, ranks_le ss 0)

-- a Varchar's rank is below their number
pub rank-inside : (ss : List Shape) (i : ℕ) → i < length ss → get_or ss i Varlen ≡ Varlen → rank_of ss i < varlens ss
rank-inside [] i h v = absurd (omega arith)
rank-inside (Fixed z a ∷ ss) zero h v = let q : ◌≡◌ {A = ℕ} 0 1 = cc in absurd (omega arith)
rank-inside (Varlen ∷ ss) zero h v = rw (varlens-cons Varlen ss) (omega arith)
rank-inside (s ∷ ss) (suc i) h v = rw (varlens-cons s ss, varlens-cons s (take i ss)) (omega (arith, rank-inside ss i (omega arith) v))

-- ---- shapes whose alignments are positive

pub all_take : {ss : List Shape} (i : ℕ) → All ss → All (take i ss)
all_take zero a = none
all_take (suc i) none = none
all_take (suc i) (more h a) = more h (all_take i a)

pub all_drop : {ss : List Shape} (i : ℕ) → All ss → All (drop i ss)
all_drop zero a = a
all_drop (suc i) none = none
all_drop (suc i) (more h a) = all_drop i a

pub all_at : {ss : List Shape} (i : ℕ) → All ss → Aligned (get_or ss i Varlen)
all_at i none = tt
all_at zero (more h a) = h
all_at (suc i) (more h a) = all_at i a

pub round_up_ge : (a at : ℕ) → 0 < a → at ≤ round_up a at
round_up_ge a at h =
    let x : ℕ = at + (a - 1) in
    omega (arith, div-add-mod' x a, mod-lt x h)

pub start_ge : (p : Bool) (a at : ℕ) → 0 < a → at ≤ start_at p a at
start_ge true a at h = le_refl at
start_ge false a at h = round_up_ge a at h

pub slot_ge : (p : Bool) (s : Shape) (at : ℕ) → Aligned s → at ≤ slot_after p s at
slot_ge p (Fixed z a) at h = start_ge p a at h
slot_ge p Varlen at h = le_refl at

pub end-slot : (p : Bool) (s : Shape) (at : ℕ) → end_after p s at ≡ slot_after p s at + slot_size s
end-slot p (Fixed z a) at = refl
end-slot p Varlen at = sym (add-zero at)

-- ---- the places of fixed columns

module _ (p : Bool) where
  pub size_ge : {ss : List Shape} (at : ℕ) → All ss → at ≤ through (end_after p) at ss
  size_ge at none = le_refl at
  size_ge at (more {s = s} {ss = ss} h a) = omega (arith, slot_ge p s at h, end-slot p s at, size_ge (end_after p s at) a)

  pub size-take : (ss : List Shape) (i : ℕ) → All ss → fixed_size p (take i ss) ≤ fixed_size p ss
  size-take ss i a = rw (through-split (end_after p) ss i 0) (size_ge (fixed_size p (take i ss)) (all_drop i a))

  -- a slot ends where the columns after it may start
  pub slot-end : (ss : List Shape) (i : ℕ) → i < length ss → slot_start p ss i + slot_size (get_or ss i Varlen) ≡ fixed_size p (take (suc i) ss)
  slot-end ss i h = sym (through-next (end_after p) ss i 0 h ∙ end-slot p (get_or ss i Varlen) (fixed_size p (take i ss)))

  -- a slot lies in the fixed region
  pub slot-inside : (ss : List Shape) (i : ℕ) → All ss → i < length ss → slot_start p ss i + slot_size (get_or ss i Varlen) ≤ fixed_size p ss
  slot-inside ss i a h = rw (slot-end ss i h) (size-take ss (suc i) a)

  -- and before the slots of the columns after it
  pub slots_apart : (ss : List Shape) (i j : ℕ) → All ss → i < j → j < length ss → slot_start p ss i + slot_size (get_or ss i Varlen) ≤ slot_start p ss j
  slots_apart ss i j a h k =
      let l : i < length ss = omega arith in
      let e : fixed_size p (take (suc i) ss) ≤ fixed_size p (take j ss) = rw (take-take (suc i) j ss h) at (size-take (take j ss) (suc i) (all_take j a)) in
      rw (slot-end ss i l) (le_trans e (slot_ge p (get_or ss j Varlen) (fixed_size p (take j ss)) (all_at j a)))

-- packed, whatever the alignments
pub packed-take : (ss : List Shape) (i : ℕ) → fixed_size true (take i ss) ≤ fixed_size true ss
packed-take ss zero = omega arith
packed-take [] (suc i) = omega arith
packed-take (s ∷ ss) (suc i) = rw (packed-cons s ss, packed-cons s (take i ss)) (omega (arith, packed-take ss i))

pub packed-inside : (ss : List Shape) (i : ℕ) → i < length ss → slot_start true ss i + slot_size (get_or ss i Varlen) ≤ fixed_size true ss
packed-inside ss i h = rw (slot-end true ss i h) (packed-take ss (suc i))
