-- A place that splits a list, found by halves, and the list with an element put there.
use Prim.Native.Nat.{ℕ, zero, suc, ◌+◌, ◌-◌, ◌≤◌, ◌<◌}
use mathlib.Core.Path.{◌≡◌, refl, sym, ap, ◌∙◌}
use mathlib.Core.Bool.{Bool, true, false}
use mathlib.Core.List.{List, [], ◌∷◌, ◌++◌, map, append_assoc}
use native.Mathlib.Numerals.{add-one}
use native.Mathlib.Omega.{arith}
use lib.ListN.{length, get_or, set, take, drop, length-append, length-drop}
use lib.Seq.{sets, sets-eq, length-take-le, take-take, take_at}
use Rattle.std.specs.List.{copy_within}
use Rattle.laws.proofs.Truths.{same_or}
use Rattle.laws.proofs.Stores.{sets-splice, sets_comm}
use Rattle.laws.proofs.Lent.{drop-take}
use Rattle.occupation_list.specs.Ordered.{inserted}

-- ---- the search: b is false up to a place, and true from there on

pub record Searching (b : ℕ → Bool) (k low high : ℕ) : Type 0 where
  pub order_of : low ≤ high
  pub within : high ≤ k
  pub before : (i : ℕ) → i < low → b i ≡ false
  pub behind : (i : ℕ) → high ≤ i → i < k → b i ≡ true

pub search_start : (b : ℕ → Bool) (k : ℕ) → Searching b k 0 k
search_start b k = record { order_of = omega arith; within = omega arith; before = λ i h. absurd (omega arith); behind = λ i h l. absurd (omega arith) }

module _ {b : ℕ → Bool} {k : ℕ} (stays : (i j : ℕ) → i < j → j < k → b i ≡ true → b j ≡ true) {low high : ℕ} (mid : ℕ) (s : Searching b k low high) (l : low ≤ mid) (h : mid < high) where
  pub search_lower : b mid ≡ true → Searching b k low mid
  search_lower e =
      let w = s.within in
      record {
        order_of = l;
        within = omega arith;
        before = s.before;
        behind = λ i m n. same_or mid i (λ q. rw (← q) e) (λ ne. stays mid i (omega (arith, ne)) n e);
      }

  not_yet : b mid ≡ false → (i : ℕ) → i < mid → (y : Bool) → b i ≡ y → y ≡ false
  not_yet e i m true q = let w = s.within in sym (stays i mid m (omega arith) q) ∙ e
  not_yet e i m false q = refl

  pub search_higher : b mid ≡ false → Searching b k (mid + 1) high
  search_higher e =
      record {
        order_of = omega arith;
        within = s.within;
        before = λ i m. same_or mid i (λ q. rw (← q) e) (λ ne. not_yet e i (omega (arith, ne)) (b i) refl);
        behind = s.behind;
      }

-- ---- an element put at the place

pub split-inserted : {A : Type 0} (lt : A → A → Bool) (f : ℕ → A) (o : A) (ps : List ℕ) (r : ℕ) → r ≤ length ps → ((i : ℕ) → i < r → lt o (f (get_or ps i 0)) ≡ false) → ((i : ℕ) → r ≤ i → i < length ps → lt o (f (get_or ps i 0)) ≡ true)
    → inserted lt o (map f ps) ≡ map f (take r ps) ++ (o ∷ map f (drop r ps))
split-inserted lt f o [] zero h u v = refl
split-inserted lt f o [] (suc r) h u v = absurd (omega arith)
split-inserted lt f o (p ∷ ps) zero h u v = rw (v 0 (omega arith) (omega arith))
split-inserted {A} lt f o (p ∷ ps) (suc r) h u v =
    rw (u 0 (omega arith)) (ap (λ (l : List A). f p ∷ l) (split-inserted lt f o ps r (omega arith) (λ i l. u (suc i) (omega arith)) (λ i l m. v (suc i) (omega arith) (omega arith))))

-- those from p up to k stand one further on
pub moved : (l : List ℕ) (k p : ℕ) → p ≤ k → k < length l → copy_within l p k (p + 1) ≡ sets l (p + 1) (take (k - p) (drop p l))
moved l k p h room =
    let n : length (take (k - p) (drop p l)) ≡ k - p = length-take-le (k - p) (drop p l) (rw length-drop (omega arith)) in
    sym (sets-eq (take (k - p) (drop p l)) l (p + 1) (rw n (omega arith)) ∙ rw n)

-- the k first of l, with x at place r
module _ (l : List ℕ) (k r x : ℕ) (h : r ≤ k) (room : k < length l) where
  abbrev high : List ℕ
  high = take (k - r) (drop r l)

  length_high : length high ≡ k - r
  length_high = length-take-le (k - r) (drop r l) (rw length-drop (omega arith))

  stored : set (sets l (r + 1) high) r x ≡ sets l r (x ∷ high)
  stored = sym (sets_comm l r (r + 1) (x ∷ []) high (omega arith)) ∙ ap (λ (n : ℕ). sets (set l r x) n high) (add-one r)

  pub take_put : take (k + 1) (set (sets l (r + 1) high) r x) ≡ take r (take k l) ++ (x ∷ drop r (take k l))
  take_put =
      let n : length (x ∷ high) ≡ suc (k - r) = ap suc length_high in
      let m : length (take r l ++ (x ∷ high)) ≡ k + 1 = rw (length-append, length-take-le r l (omega arith), length_high) (omega arith) in
      let parts : set (sets l (r + 1) high) r x ≡ (take r l ++ (x ∷ high)) ++ drop (r + length (x ∷ high)) l
      = stored ∙ sets-splice l r (x ∷ high) (rw n (omega arith)) ∙ sym (append_assoc (take r l) (x ∷ high) (drop (r + length (x ∷ high)) l)) in
      ap (take (k + 1)) parts ∙ take_at (take r l ++ (x ∷ high)) (drop (r + length (x ∷ high)) l) (k + 1) m ∙ rw (take-take r k l h, drop-take k r l h (omega arith))

-- ---- what holds of all of them

length-put : (x : ℕ) (ps : List ℕ) (r : ℕ) → r ≤ length ps → length (take r ps ++ (x ∷ drop r ps)) ≡ suc (length ps)
length-put x ps r h = rw (length-append, length-take-le r ps h, length-drop) (omega arith)

pub get_put : (P : ℕ → Type 0) (x : ℕ) → P x → (ps : List ℕ) (r : ℕ) → r ≤ length ps → ((i : ℕ) → i < length ps → P (get_or ps i 0)) → (i : ℕ) → i < suc (length ps) → P (get_or (take r ps ++ (x ∷ drop r ps)) i 0)
get_put P x own ps zero l f zero h = own
get_put P x own ps zero l f (suc i) h = f i (omega arith)
get_put P x own [] (suc r) l f i h = absurd (omega arith)
get_put P x own (p ∷ ps) (suc r) l f zero h = f 0 (omega arith)
get_put P x own (p ∷ ps) (suc r) l f (suc i) h = get_put P x own ps r (omega arith) (λ j k. f (suc j) (omega arith)) i (omega arith)

-- of each two in their order, b being asked of the later one and the earlier one
abbrev pub Rises : (ℕ → ℕ → Bool) → List ℕ → Type 0
Rises b ps = (i j : ℕ) → i < j → j < length ps → b (get_or ps j 0) (get_or ps i 0) ≡ false

pub rises-put : (b : ℕ → ℕ → Bool) (once : (x y : ℕ) → b x y ≡ true → b y x ≡ false) (x : ℕ) (ps : List ℕ) (r : ℕ) → r ≤ length ps → ((i : ℕ) → i < r → b x (get_or ps i 0) ≡ false) → ((i : ℕ) → r ≤ i → i < length ps → b x (get_or ps i 0) ≡ true)
    → Rises b ps → Rises b (take r ps ++ (x ∷ drop r ps))
rises-put b once x [] zero h f g u i j l m = absurd (omega arith)
rises-put b once x [] (suc r) h f g u i j l m = absurd (omega arith)
rises-put b once x (y ∷ ys) zero h f g u zero zero l m = absurd (omega arith)
rises-put b once x (y ∷ ys) zero h f g u zero (suc j) l m = once x (get_or (y ∷ ys) j 0) (g j (omega arith) (omega arith))
rises-put b once x (y ∷ ys) zero h f g u (suc i) zero l m = absurd (omega arith)
rises-put b once x (y ∷ ys) zero h f g u (suc i) (suc j) l m = u i j (omega arith) (omega arith)
rises-put b once x (y ∷ ys) (suc r) h f g u i zero l m = absurd (omega arith)
rises-put b once x (y ∷ ys) (suc r) h f g u (suc i) (suc j) l m =
    rises-put b once x ys r (omega arith) (λ k q. f (suc k) (omega arith)) (λ k q n. g (suc k) (omega arith) (omega arith)) (λ a c q n. u (suc a) (suc c) (omega arith) (omega arith)) i j (omega arith) (omega arith)
rises-put b once x (y ∷ ys) (suc r) h f g u zero (suc j) l m = get_put (λ q. b q y ≡ false) x (f 0 (omega arith)) ys r (omega arith) (λ k n. u 0 (suc k) (omega arith) (omega arith)) j (omega (arith, length-put x ys r (omega arith)))
