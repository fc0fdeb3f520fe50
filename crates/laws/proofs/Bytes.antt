-- Little-endian numbers, over any width; tables of them; bytes replaced.
use Prim.Native.Nat.{ℕ, zero, suc, ◌+◌, ◌*◌, ◌-◌, ◌/◌, ◌%◌, ◌^◌, ◌≤◌, ◌<◌}
use mathlib.Core.Path.{◌≡◌, refl, sym, ap, subst, ◌∙◌}
use mathlib.Core.List.{List, [], ◌∷◌, ◌++◌, append_assoc}
use native.Mathlib.Nat.{le_trans, zero-add, suc-add, zero-mul, pow-suc, pow-succ', one-le-pow, div-div-eq-div-mul}
use native.Mathlib.Omega.{arith}
use lib.Arith.{mod-mul}
use mir.Syntax.{w8}
use mir.Val.{Fits}
use lib.ListN.{length, get_or, take, drop, length-append, length-drop, get_or-append}
use lib.Seq.{sets, length-sets, take_at, drop_at, drop-cons, drop-drop, take-add, length-take-le, get_or-take, get_or-drop, get_or-append-add}
use Rattle.laws.proofs.Truths.{cases}
use Rattle.laws.proofs.Stores.{sets-append, sets-splice}
use Rattle.laws.specs.Bytes.{to_le, from_le, to_table, from_table, entry_at, splice}

-- ---- one number

pub length-to_le : (w x : ℕ) → length (to_le w x) ≡ w
length-to_le zero x = refl
length-to_le (suc w) x = ap suc (length-to_le w (x / 256))

-- a number that fits w bytes is read back
pub from_to : (w x : ℕ) → x < 256 ^ w → from_le (to_le w x) ≡ x
from_to zero x h = omega arith
from_to (suc w) x h = let ih : from_le (to_le w (x / 256)) ≡ x / 256 = from_to w (x / 256) (omega arith) in omega arith

-- where it stands in a list
pub from_at : (w x : ℕ) (p q : List ℕ) (at : ℕ) → length p ≡ at → x < 256 ^ w → from_le (take w (drop at (p ++ (to_le w x ++ q)))) ≡ x
from_at w x p q at e h = rw (drop_at p (to_le w x ++ q) at e, take_at (to_le w x) q w (length-to_le w x)) (from_to w x h)

-- each element is below m
abbrev pub Below : ℕ → List ℕ → Type 0
Below m [] = Unit {0}
Below m (x ∷ xs) = (x < m) × Below m xs

pub below-drop : (m n : ℕ) (xs : List ℕ) → Below m xs → Below m (drop n xs)
below-drop m zero xs b = b
below-drop m (suc n) [] b = tt
below-drop m (suc n) (x ∷ xs) b = below-drop m n xs b.1

pub below-take : (m n : ℕ) (xs : List ℕ) → Below m xs → Below m (take n xs)
below-take m zero xs b = tt
below-take m (suc n) [] b = tt
below-take m (suc n) (x ∷ xs) b = (b.0, below-take m n xs b.1)

pub below_at : (m : ℕ) (xs : List ℕ) (k : ℕ) → k < length xs → Below m xs → get_or xs k 0 < m
below_at m [] k h b = absurd (omega arith)
below_at m (x ∷ xs) zero h b = b.0
below_at m (x ∷ xs) (suc k) h b = below_at m xs k (omega arith) b.1

-- what is known of the elements of a `&[u8]`
abbrev pub AllBytes : List ℕ → Type 0
AllBytes bs = (k : ℕ) → Fits w8 (get_or bs k 0)

pub all-below : (bs : List ℕ) → AllBytes bs → Below 256 bs
all-below [] a = tt
all-below (b ∷ bs) a = ((a 0).fits, all-below bs (λ k. a (suc k)))

-- bytes that were read are written again
pub to_from : (bs : List ℕ) → Below 256 bs → to_le (length bs) (from_le bs) ≡ bs
to_from [] b = refl
to_from (x ∷ bs) b =
    let l : x < 256 = b.0 in
    let low : (x + 256 * from_le bs) % 256 ≡ x = omega arith in
    let high : (x + 256 * from_le bs) / 256 ≡ from_le bs = omega arith in
    rw (low, high, to_from bs b.1)

-- w bytes, or fewer, hold a number below 256 ^ w
from-below : (w : ℕ) (bs : List ℕ) → AllBytes bs → from_le (take w bs) < 256 ^ w
from-below zero bs a = omega arith
from-below (suc w) [] a = rw (pow-succ' 256 w) (omega (arith, from-below w [] a))
from-below (suc w) (b ∷ bs) a = let ih = from-below w bs (λ k. a (suc k)) in rw (pow-succ' 256 w) (omega (arith, (a 0).fits))

pub from-part : (w at : ℕ) (s : List ℕ) → AllBytes s → from_le (take w (drop at s)) < 256 ^ w
from-part w at s a = from-below w (drop at s) (λ k. rw get_or-drop (a (at + k)))

-- the law over the width: a number of a + b bytes is one of a bytes and one of b
pub from-append : (xs ys : List ℕ) → from_le (xs ++ ys) ≡ from_le xs + 256 ^ length xs * from_le ys
from-append [] ys = omega arith
from-append (x ∷ xs) ys = rw (from-append xs ys, pow-succ' 256 (length xs)) (omega arith)

pub from-add : (a b at : ℕ) (s : List ℕ) → at + a ≤ length s → from_le (take (a + b) (drop at s)) ≡ from_le (take a (drop at s)) + 256 ^ a * from_le (take b (drop (at + a) s))
from-add a b at s h =
    let n : length (take a (drop at s)) ≡ a = length-take-le a (drop at s) (rw length-drop (omega arith)) in
    rw (take-add, from-append, n, drop-drop)

pub from_one : (at : ℕ) (s : List ℕ) → at < length s → from_le (take 1 (drop at s)) ≡ get_or s at 0
from_one at s h = rw (drop-cons s at 0 h) (omega arith)

pub to_add : (a b x : ℕ) → to_le (a + b) x ≡ to_le a x ++ to_le b (x / 256 ^ a)
to_add zero b x = let e : x / 256 ^ 0 ≡ x = omega arith in rw (zero-add, e)
to_add (suc a) b x = rw (suc-add, to_add a b (x / 256), div-div-eq-div-mul x 256 (256 ^ a), ← pow-succ' 256 a)

-- only the low w bytes of a number are written
pub to_mod : (w x : ℕ) → to_le w (x % 256 ^ w) ≡ to_le w x
to_mod zero x = refl
to_mod (suc w) x =
    let e : x % 256 ^ suc w ≡ x / 256 % 256 ^ w * 256 + x % 256 = rw (pow-suc 256 w) (mod-mul x (one-le-pow w 256 (omega arith)) (omega arith)) in
    let low : (x / 256 % 256 ^ w * 256 + x % 256) % 256 ≡ x % 256 = omega arith in
    let high : (x / 256 % 256 ^ w * 256 + x % 256) / 256 ≡ x / 256 % 256 ^ w = omega arith in
    rw (e, low, high, to_mod w (x / 256))

-- a number of 2 w bytes stored as its two halves
pub halves-stored : (w at x : ℕ) (l p q : List ℕ) → p ≡ sets l at (to_le w (x % 256 ^ w)) → q ≡ sets p (at + w) (to_le w (x / 256 ^ w)) → q ≡ sets l at (to_le (w + w) x)
halves-stored w at x l p q low high = rw (high, low, to_mod w x, to_add w w x, sets-append, length-to_le)

-- ---- a table

pub length-to_table : (w : ℕ) (xs : List ℕ) → length (to_table w xs) ≡ length xs * w
length-to_table w [] = omega arith
length-to_table w (x ∷ xs) = simp (length-append, length-to_le, length-to_table w xs) (omega arith)

pub length-from_table : (w v : ℕ) (t : List ℕ) → length (from_table w v t) ≡ v
length-from_table w zero t = refl
length-from_table w (suc v) t = ap suc (length-from_table w v (drop w t))

pub to_table-append : (w : ℕ) (xs ys : List ℕ) → to_table w (xs ++ ys) ≡ to_table w xs ++ to_table w ys
to_table-append w [] ys = refl
to_table-append w (x ∷ xs) ys = rw (to_table-append w xs ys, append_assoc)

-- a table of numbers that fit is read back
pub table-from_to : (w : ℕ) (xs rest : List ℕ) → Below (256 ^ w) xs → from_table w (length xs) (to_table w xs ++ rest) ≡ xs
table-from_to w [] rest b = refl
table-from_to w (x ∷ xs) rest b =
    rw (append_assoc, take_at (to_le w x) (to_table w xs ++ rest) w (length-to_le w x), drop_at (to_le w x) (to_table w xs ++ rest) w (length-to_le w x), from_to w x b.0, table-from_to w xs rest b.1)

-- entry by entry
table_entry_at : (w v : ℕ) (t : List ℕ) (j : ℕ) → j < v → get_or (from_table w v t) j 0 ≡ from_le (take w (drop (j * w) t))
table_entry_at w zero t j h = absurd (omega arith)
table_entry_at w (suc v) t zero h = rw (zero-mul w)
table_entry_at w (suc v) t (suc j) h =
    let e : w + j * w ≡ suc j * w = omega arith in
    table_entry_at w v (drop w t) j (omega arith) ∙ ap (λ (l : List ℕ). from_le (take w l)) (drop-drop (j * w) w t ∙ ap (λ (n : ℕ). drop n t) e)

pub table_entry : (w v t j : ℕ) (r : List ℕ) → j < v → get_or (from_table w v (drop t r)) j 0 ≡ entry_at w t j r
table_entry w v t j r h = table_entry_at w v (drop t r) j h ∙ rw drop-drop

-- ---- bytes replaced

pub length-splice : (s e : ℕ) (new r : List ℕ) → s ≤ e → e ≤ length r → length (splice s e new r) ≡ length r - (e - s) + length new
length-splice s e new r h l = rw (length-append, length-append, length-take-le s r (le_trans h l), length-drop) (omega arith)

-- where the list is known by its parts
pub splice_at : (p m q new : List ℕ) (s e : ℕ) → length p ≡ s → length p + length m ≡ e → splice s e new (p ++ (m ++ q)) ≡ p ++ (new ++ q)
splice_at p m q new s e hs he =
    rw (take_at p (m ++ q) s hs, ← append_assoc p m q, drop_at (p ++ m) q e (length-append p m ∙ he))

pub sets_at : (p m q new : List ℕ) (s : ℕ) → length p ≡ s → length new ≡ length m → sets (p ++ (m ++ q)) s new ≡ p ++ (new ++ q)
sets_at p m q new s e l =
    sets-splice (p ++ (m ++ q)) s new (simp (length-append, e, l) (omega arith)) ∙ splice_at p m q new s (s + length new) e (rw (e, l))

-- by as many others: the length and every other byte are kept
module _ (s e : ℕ) (new r : List ℕ) (q : s + length new ≡ e) (h : e ≤ length r) where
  pub same-length-splice : length (splice s e new r) ≡ length r
  same-length-splice = length-splice s e new r (omega arith) h ∙ (omega arith)

  pub splice_outside : (i : ℕ) → (s ≤ i → i < e → ⊥) → get_or (splice s e new r) i 0 ≡ get_or r i 0
  splice_outside i out =
      let kept : length (take s r) ≡ s = length-take-le s r (omega arith) in
      cases i s (λ l. get_or-append (take s r) (new ++ drop e r) 0 i (rw kept l) ∙ get_or-take s r i 0 l)
      (λ g.
      let past : e ≤ i = cases i e (λ l. absurd (out g l)) (λ l. l) in
      let seam : length (take s r ++ new) + (i - e) ≡ i = rw (length-append, kept) (omega arith) in
      let same : e + (i - e) ≡ i = omega arith in
      rw (← append_assoc (take s r))
      (subst (λ (k : ℕ). get_or ((take s r ++ new) ++ drop e r) k 0 ≡ get_or r i 0) seam (get_or-append-add (take s r ++ new) (drop e r) (i - e) 0 ∙ get_or-drop e r (i - e) 0 ∙ rw same)))

-- a run read where it was stored, and another of its length stored over it
module _ (l : List ℕ) (i : ℕ) (xs : List ℕ) (h : i + length xs ≤ length l) where
  front : length (take i l) ≡ i
  front = length-take-le i l (omega arith)

  pub part-stored : take (length xs) (drop i (sets l i xs)) ≡ xs
  part-stored =
      rw (sets-splice l i xs h, drop_at (take i l) (xs ++ drop (i + length xs) l) i front) (take_at xs (drop (i + length xs) l) (length xs) refl)

  pub sets_over : (ys : List ℕ) → length xs ≡ length ys → sets (sets l i xs) i ys ≡ sets l i ys
  sets_over ys e =
      let over : splice i (i + length ys) ys (sets l i xs) ≡ take i l ++ (ys ++ drop (i + length xs) l)
      = rw (sets-splice l i xs h) (splice_at (take i l) xs (drop (i + length xs) l) ys i (i + length ys) front (rw (front, e))) in
      sets-splice (sets l i xs) i ys (rw (length-sets, ← e) h) ∙ over ∙ rw e (sym (sets-splice l i ys (rw (← e) h)))
