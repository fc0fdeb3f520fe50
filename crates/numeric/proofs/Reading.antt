-- Nibbles read as decimal digits, one after the other.
use Prim.Native.Nat.{ℕ, zero, suc, ◌+◌, ◌*◌, ◌/◌, ◌%◌, ◌^◌, ◌-◌, ◌≤◌, ◌<◌}
use mathlib.Core.Path.{◌≡◌, refl, sym, ap, ◌∙◌}
use mathlib.Core.Bool.{Bool, true, false, cond, ◌&&◌, and_assoc}
use mathlib.Core.List.{List, [], ◌∷◌, ◌++◌}
use native.Mathlib.Nat.{add-mul, mul_assoc, pow-suc, pow-le-pow_right, lt_of_lt_of_le}
use native.Mathlib.Numerals.{add-one}
use native.Mathlib.Omega.{arith}
use borrow.Author.Tests.{le-leb, lt-leb}
use lib.Dec.{leb}
use lib.ListN.{length, get_or, take, drop, length-append, length-take, length-drop}
use lib.Pow.{pow-add}
use lib.Seq.{take-suc, take-length, take-add, drop-drop, split_at, get_or-take, get_or-drop}
use Rattle.std.specs.Prelude.{Option, None, Some}
use Rattle.laws.proofs.Truths.{cases}
use Rattle.numeric.specs.Decimal.{denote}
use Rattle.numeric.specs.Packed.{nibbles, all_digits, magnitude_of}

-- ---- the nibbles of bytes

pub nibble_even : (bs : List ℕ) (j : ℕ) → get_or bs j 0 / 16 ≡ get_or (nibbles bs) (2 * j) 0
nibble_even [] j = refl
nibble_even (b ∷ bs) zero = refl
nibble_even (b ∷ bs) (suc j) = let e : 2 * suc j ≡ suc (suc (2 * j)) = omega arith in rw e (nibble_even bs j)

pub nibble_odd : (bs : List ℕ) (j : ℕ) → get_or bs j 0 % 16 ≡ get_or (nibbles bs) (2 * j + 1) 0
nibble_odd [] j = refl
nibble_odd (b ∷ bs) zero = refl
nibble_odd (b ∷ bs) (suc j) = let e : 2 * suc j + 1 ≡ suc (suc (2 * j + 1)) = omega arith in rw e (nibble_odd bs j)

pub length-nibbles : (bs : List ℕ) → length (nibbles bs) ≡ 2 * length bs
length-nibbles [] = refl
length-nibbles (b ∷ bs) = omega (arith, length-nibbles bs)

pub nibble_upper : (bs : List ℕ) (k : ℕ) → k % 2 ≡ 0 → get_or bs (k / 2) 0 / 16 ≡ get_or (nibbles bs) k 0
nibble_upper bs k h = let e : 2 * (k / 2) ≡ k = omega arith in rw e at (nibble_even bs (k / 2))

pub nibble_lower : (bs : List ℕ) (k : ℕ) → 0 < k % 2 → get_or bs (k / 2) 0 % 16 ≡ get_or (nibbles bs) k 0
nibble_lower bs k h = let e : 2 * (k / 2) + 1 ≡ k = omega arith in rw e at (nibble_odd bs (k / 2))

-- ---- digits

all_append : (xs ys : List ℕ) → all_digits (xs ++ ys) ≡ (all_digits xs && all_digits ys)
all_append [] ys = refl
all_append (x ∷ xs) ys = rw (all_append xs ys) (sym (and_assoc (leb x 9) (all_digits xs) (all_digits ys)))

denote_snoc : (xs : List ℕ) (d : ℕ) → denote (xs ++ (d ∷ [])) ≡ denote xs * 10 + d
denote_snoc [] d = omega arith
denote_snoc (x ∷ xs) d =
    let e : length (xs ++ (d ∷ [])) ≡ suc (length xs) = length-append xs (d ∷ []) ∙ omega arith in
    rw (denote_snoc xs d, e, pow-suc 10 (length xs)) (omega arith)

-- ---- the loop: k digits of ds were read, and are the number n

pub record Reading (ds : List ℕ) (n k : ℕ) : Type 0 where
  pub few : k ≤ length ds
  pub fine : all_digits (take k ds) ≡ true
  pub value : n ≡ denote (take k ds)
  pub small : n < 10 ^ k

pub reading_start : (ds : List ℕ) → Reading ds 0 0
reading_start ds = record { few = omega arith; fine = refl; value = refl; small = omega arith }

module _ {ds : List ℕ} {n k : ℕ} (t : Reading ds n k) (d : ℕ) where
  reading_more : k < length ds → d ≡ get_or ds k 0 → d ≤ 9 → Reading ds (n * 10 + d) (k + 1)
  reading_more h e l =
      let s : take (k + 1) ds ≡ take k ds ++ (d ∷ []) = rw (add-one, e) (take-suc ds k 0 h) in
      record {
        few = omega arith;
        fine = rw (s, all_append, t.fine, le-leb d 9 l);
        value = rw (s, denote_snoc, ← t.value);
        small = rw (add-one, pow-suc 10 k) (omega (arith, t.small));
      }

  reading_bad : k < length ds → d ≡ get_or ds k 0 → 9 < d → None ≡ magnitude_of ds
  reading_bad h e l =
      let z : all_digits ds ≡ false = ap all_digits (split_at ds k 0 h) ∙ rw (all_append, t.fine, ← e, lt-leb d 9 l) in
      rw z

reading_end : {ds : List ℕ} {n k : ℕ} → Reading ds n k → length ds ≤ k → Some n ≡ magnitude_of ds
reading_end {ds} {n} {k} t h =
    let e : k ≡ length ds = omega (arith, t.few) in
    let a : all_digits ds ≡ true = rw (e, take-length) at t.fine in
    let v : n ≡ denote ds = rw (e, take-length) at t.value in
    rw (a, v)

-- ---- what fits 64 bits

pub short-fits : (n k : ℕ) → n < 10 ^ k → k ≤ 18 → n < 10 ^ 18
short-fits n k h l = lt_of_lt_of_le h (pow-le-pow_right (omega arith) l)

-- ---- the same of the nibbles from one place to another, before place k

abbrev pub Window : List ℕ → ℕ → ℕ → ℕ → ℕ → Type 0
Window bs from to n k = Reading (take (to - from) (drop from (nibbles bs))) n (k - from)

pub window_start : (bs : List ℕ) (from to : ℕ) → Window bs from to 0 from
window_start bs from to = let z : from - from ≡ 0 = omega arith in rw z (reading_start _)

length_window : (bs : List ℕ) (from to : ℕ) → to ≤ 2 * length bs → length (take (to - from) (drop from (nibbles bs))) ≡ to - from
length_window bs from to room = rw (length-take, length-drop, length-nibbles) (omega arith)

module _ (bs : List ℕ) (from to : ℕ) (room : to ≤ 2 * length bs) {n k : ℕ} (t : Window bs from to n k) (l : from ≤ k) where
  pub window_end : to ≤ k → Some n ≡ magnitude_of (take (to - from) (drop from (nibbles bs)))
  window_end h = reading_end t (rw (length_window bs from to room) (omega arith))

  module _ {d : ℕ} (h : k < to) (e : d ≡ get_or (nibbles bs) k 0) where
    at : d ≡ get_or (take (to - from) (drop from (nibbles bs))) (k - from) 0
    at =
        let i : from + (k - from) ≡ k = omega arith in
        e ∙ sym (get_or-take (to - from) (drop from (nibbles bs)) (k - from) 0 (omega arith) ∙ get_or-drop from (nibbles bs) (k - from) 0 ∙ ap (λ (j : ℕ). get_or (nibbles bs) j 0) i)

    pub window_more : d ≤ 9 → Window bs from to (n * 10 + d) (k + 1)
    window_more s =
        let i : k - from + 1 ≡ k + 1 - from = omega arith in
        rw i at (reading_more t d (rw (length_window bs from to room) (omega arith)) at s)

    pub window_bad : 9 < d → None ≡ magnitude_of (take (to - from) (drop from (nibbles bs)))
    window_bad s = reading_bad t d (rw (length_window bs from to room) (omega arith)) at s

-- ---- digits in two parts

denote_append : (xs ys : List ℕ) → denote (xs ++ ys) ≡ denote xs * 10 ^ length ys + denote ys
denote_append [] ys = omega arith
denote_append (x ∷ xs) ys =
    let e : length (xs ++ ys) ≡ length xs + length ys = length-append xs ys in
    rw (e, pow-add 10 (length xs) (length ys), denote_append xs ys, add-mul (x * 10 ^ length xs) (denote xs) (10 ^ length ys), mul_assoc x (10 ^ length xs) (10 ^ length ys)) (omega arith)

-- the number of two parts, of which the second has n digits
abbrev pub both : ℕ → Option ℕ → Option ℕ → Option ℕ
both n (Some x) (Some y) = Some (x * 10 ^ n + y)
both n (Some x) None = None
both n None y = None

both_cond : (n x y : ℕ) (a b : Bool) → cond (a && b) (Some (x * 10 ^ n + y)) None ≡ both n (cond a (Some x) None) (cond b (Some y) None)
both_cond n x y true true = refl
both_cond n x y true false = refl
both_cond n x y false b = refl

magnitude_append : (xs ys : List ℕ) → magnitude_of (xs ++ ys) ≡ both (length ys) (magnitude_of xs) (magnitude_of ys)
magnitude_append xs ys = rw (all_append, denote_append) (both_cond (length ys) (denote xs) (denote ys) (all_digits xs) (all_digits ys))

-- p nibbles after the first `front`, cut so that the second part has at most 19
module _ (bs : List ℕ) (front p : ℕ) (room : front + p ≤ 2 * length bs) (m : ℕ) (cut : m ≡ front + (p - 19)) where
  abbrev pub first : List ℕ
  first = take (m - front) (drop front (nibbles bs))

  abbrev pub second : List ℕ
  second = take (front + p - m) (drop m (nibbles bs))

  parts : take p (drop front (nibbles bs)) ≡ first ++ second
  parts =
      let a : m - front + (front + p - m) ≡ p = omega arith in
      let b : front + (m - front) ≡ m = omega arith in
      let c : drop (m - front) (drop front (nibbles bs)) ≡ drop m (nibbles bs) = drop-drop (m - front) front (nibbles bs) ∙ ap (λ (j : ℕ). drop j (nibbles bs)) b in
      ap (λ (j : ℕ). take j (drop front (nibbles bs))) (sym a) ∙ take-add (m - front) (front + p - m) (drop front (nibbles bs)) ∙ ap (λ (l : List ℕ). first ++ take (front + p - m) l) c

  parts_are : magnitude_of (take p (drop front (nibbles bs))) ≡ both (length second) (magnitude_of first) (magnitude_of second)
  parts_are = ap magnitude_of parts ∙ magnitude_append first second

  pub no_first : None ≡ magnitude_of first → None ≡ magnitude_of (take p (drop front (nibbles bs)))
  no_first e = rw (parts_are, ← e)

  pub no_second : (x : ℕ) → Some x ≡ magnitude_of first → None ≡ magnitude_of second → None ≡ magnitude_of (take p (drop front (nibbles bs)))
  no_second x e f = rw (parts_are, ← e, ← f)

  scaled : (x : ℕ) → Some x ≡ magnitude_of first → x * 10 ^ 19 ≡ x * 10 ^ length second
  scaled x e =
      cases p 20
      (λ k.
      let z : m - front ≡ 0 = omega arith in
      let f : Some x ≡ Some 0 = rw z at e in
      let g : x ≡ 0 = cc in
      rw g (omega arith))
      (λ k. let l : length second ≡ 19 = length_window bs m (front + p) room ∙ omega arith in rw l)

  pub both_parts : (x y : ℕ) → Some x ≡ magnitude_of first → Some y ≡ magnitude_of second → Some (x * 10 ^ 19 + y) ≡ magnitude_of (take p (drop front (nibbles bs)))
  both_parts x y e f = rw (parts_are, ← e, ← f) (ap (λ (z : ℕ). Some (z + y)) (scaled x e))
