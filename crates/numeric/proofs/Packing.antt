-- Digits packed two a byte.
use Prim.Native.Nat.{ℕ, zero, suc, ◌+◌, ◌*◌, ◌-◌, ◌/◌, ◌%◌, ◌^◌, ◌≤◌, ◌<◌}
use mathlib.Core.Path.{◌≡◌, refl, sym, ap, ◌∙◌}
use mathlib.Core.Bool.{Bool}
use mathlib.Core.List.{List, [], ◌∷◌, ◌++◌, append-nil, append_assoc}
use native.Mathlib.Nat.{zero-add, suc-add, add_comm, zero-div, div-eq_of_lt, mul_comm, pow-suc, one-le-pow, pow-le-pow_right, lt_of_lt_of_le, div-div-eq-div-mul, div-lt_iff_lt-mul}
use native.Mathlib.Omega.{arith}
use lib.Dec.{lit≤}
use lib.ListN.{length, get_or, set, take, drop, replicate, length-append, length-replicate}
use borrow.Rule.Slice.PartMut.{put_mid}
use lib.Pow.{pow-add}
use lib.Seq.{sets, drop-drop, length-sets, get_or_at, take-take, take_at, drop_at, length-take-le}
use Rattle.laws.proofs.Truths.{cases}
use Rattle.laws.proofs.Stores.{sets-append, sets-start, sets_then, sets_comm, sets_self, sets-splice}
use Rattle.numeric.specs.Decimal.{digits}
use Rattle.numeric.specs.Packed.{pairs, front_size, sign_nibble, encode_bcd}
use Rattle.numeric.specs.InnerPacked.{two_digits, hundreds, Fresh}
use Rattle.numeric.proofs.Digits.{length_digits}

-- ---- how long they are

pub length_pairs : (ns : List ℕ) → length (pairs ns) ≡ (length ns + 1) / 2
length_pairs [] = refl
length_pairs (a ∷ []) = refl
length_pairs (a ∷ b ∷ ns) = omega (arith, length_pairs ns)

pub length_encode : (p : ℕ) (negative : Bool) (x : ℕ) → length (encode_bcd p negative x) ≡ (p + 2) / 2
unfolding encode_bcd
length_encode p negative x = rw (length_pairs, length-append, length-append, length_digits, length-replicate) (omega arith)

pub length-hundreds : (n x : ℕ) → length (hundreds n x) ≡ n
unfolding hundreds
length-hundreds zero x = refl
length-hundreds (suc n) x = ap suc (length-hundreds n x)

take-replicate : (i n : ℕ) → i ≤ n → take i (replicate n 0) ≡ replicate {A = ℕ} i 0
take-replicate zero n h = refl
take-replicate (suc i) zero h = absurd (omega arith)
take-replicate (suc i) (suc n) h = ap (λ (l : List ℕ). 0 ∷ l) (take-replicate i n (omega arith))

-- ---- a number cut in two, and one of zeros

pub hundreds-split : (m k x : ℕ) → hundreds (m + k) x ≡ hundreds m (x / 100 ^ k) ++ hundreds k x
unfolding hundreds
hundreds-split zero k x = rw zero-add
hundreds-split (suc m) k x = rw (suc-add, add_comm m k, pow-add 100 k m, ← div-div-eq-div-mul x (100 ^ k) (100 ^ m), ← add_comm m k, hundreds-split m k x)

hundreds-zero : (n : ℕ) → hundreds n 0 ≡ replicate n 0
unfolding hundreds
hundreds-zero zero = refl
hundreds-zero (suc n) = rw (zero-div, hundreds-zero n)

-- eight digits, by two divisions each
pub hundreds_eight : (x : ℕ) → x < 100000000
    → hundreds 4 x ≡ two_digits (x / 10000 / 100) ∷ two_digits (x / 10000 % 100) ∷ two_digits (x % 10000 / 100) ∷ two_digits (x % 10000 % 100) ∷ []
unfolding hundreds
hundreds_eight x h =
    let a : x / 100 ^ 3 % 100 ≡ x / 10000 / 100 = omega arith in
    let b : x / 100 ^ 2 % 100 ≡ x / 10000 % 100 = omega arith in
    let c : x / 100 ^ 1 % 100 ≡ x % 10000 / 100 = omega arith in
    let d : x / 100 ^ 0 % 100 ≡ x % 10000 % 100 = omega arith in
    rw (a, b, c, d)

-- eight digits of a longer number
pub hundreds_last : (x : ℕ) → hundreds 4 (x % 100000000) ≡ hundreds 4 x
unfolding hundreds
hundreds_last x =
    let a : x % 100000000 / 100 ^ 3 % 100 ≡ x / 100 ^ 3 % 100 = omega arith in
    let b : x % 100000000 / 100 ^ 2 % 100 ≡ x / 100 ^ 2 % 100 = omega arith in
    let c : x % 100000000 / 100 ^ 1 % 100 ≡ x / 100 ^ 1 % 100 = omega arith in
    let d : x % 100000000 / 100 ^ 0 % 100 ≡ x / 100 ^ 0 % 100 = omega arith in
    rw (a, b, c, d)

-- ---- the same as digits, two of them a byte

hundred_pow : (k : ℕ) → 10 ^ (2 * k) ≡ 100 ^ k
hundred_pow zero = refl
hundred_pow (suc k) = let e : 2 * suc k ≡ suc (suc (2 * k)) = omega arith in rw (e, pow-suc 10 (suc (2 * k)), pow-suc 10 (2 * k), pow-suc 100 k, hundred_pow k) (omega arith)

two_of : (k x : ℕ) → x / 10 ^ suc (suc (2 * k)) % 10 * 16 + x / 10 ^ suc (2 * k) % 10 ≡ two_digits (x / 10 / 100 ^ k % 100)
two_of k x =
    let y : ℕ = x / 10 / 100 ^ k in
    let a : x / 10 ^ suc (2 * k) ≡ y = rw (pow-suc 10 (2 * k), mul_comm (10 ^ (2 * k)) 10, hundred_pow k, ← div-div-eq-div-mul x 10 (100 ^ k)) in
    let b : x / 10 ^ suc (suc (2 * k)) ≡ y / 10 = rw (pow-suc 10 (suc (2 * k)), ← div-div-eq-div-mul x (10 ^ suc (2 * k)) 10, a) in
    rw (b, a) (omega arith)

pairs-odd : (k x : ℕ) (rest : List ℕ) → pairs (digits (suc (2 * k)) x ++ rest) ≡ hundreds k (x / 10) ++ pairs (x % 10 ∷ rest)
unfolding digits hundreds
pairs-odd zero x rest = let e : x / 10 ^ 0 % 10 ≡ x % 10 = omega arith in ap (λ (d : ℕ). pairs (d ∷ rest)) e
pairs-odd (suc k) x rest = let e : 2 * suc k ≡ suc (suc (2 * k)) = omega arith in rw (e, two_of k x, pairs-odd k x rest)

pub pairs-digits : (x : ℕ) → pairs (digits 39 x) ≡ hundreds 19 (x / 10) ++ (x % 10 * 16 ∷ [])
pairs-digits x = ap pairs (sym (append-nil (digits 39 x))) ∙ pairs-odd 19 x []

-- a zero nibble in front is a digit more
module _ (p x : ℕ) (h : x < 10 ^ p) where
  fronted : (f : ℕ) → front_size p ≡ f → replicate f 0 ++ digits p x ≡ digits (suc (2 * (p / 2))) x
  unfolding digits
  fronted zero e = let n : p ≡ suc (2 * (p / 2)) = omega arith in ap (λ (m : ℕ). digits m x) n
  fronted (suc zero) e = let n : 2 * (p / 2) ≡ p = omega arith in rw (n, div-eq_of_lt h)
  fronted (suc (suc f)) e = absurd (omega arith)

  pub encode_pairs : (negative : Bool) → encode_bcd p negative x ≡ hundreds (p / 2) (x / 10) ++ ((x % 10 * 16 + sign_nibble negative) ∷ [])
  unfolding encode_bcd
  encode_pairs negative =
      rw length_digits
      (ap pairs (sym (append_assoc (replicate (front_size p) 0) (digits p x) (sign_nibble negative ∷ [])) ∙ ap (λ (l : List ℕ). l ++ (sign_nibble negative ∷ [])) (fronted (front_size p) refl))
      ∙ pairs-odd (p / 2) x (sign_nibble negative ∷ []))

-- ---- the packed form out of the 39 digits

-- the last 2 k digits but one
digits_cut : (k x : ℕ) → k ≤ 19 → take (19 - (19 - k)) (drop (19 - k) (pairs (digits 39 x))) ≡ hundreds k (x / 10)
digits_cut k x h =
    let y : ℕ = x / 10 in
    let n : 19 - k + k ≡ 19 = omega arith in
    let m : 19 - (19 - k) ≡ k = omega arith in
    let front : List ℕ = hundreds (19 - k) (y / 100 ^ k) in
    let cut : hundreds 19 y ≡ front ++ hundreds k y = ap (λ (i : ℕ). hundreds i y) (sym n) ∙ hundreds-split (19 - k) k y in
    rw (m, pairs-digits x, cut, append_assoc, drop_at front _ (19 - k) (length-hundreds _ _), take_at (hundreds k y) _ k (length-hundreds k y))

last_of : (x : ℕ) → get_or (pairs (digits 39 x)) 19 0 ≡ x % 10 * 16
last_of x = rw (pairs-digits x) (get_or_at (hundreds 19 (x / 10)) (x % 10 * 16) [] 0 19 (length-hundreds 19 (x / 10)))

-- a part of s that was written
put_sets : (s xs : List ℕ) (at : ℕ) → at + length xs ≤ length s → put_mid at (length xs) s xs ≡ sets s at xs
put_sets s xs at h = rw (drop-drop (length xs) at s) (sym (sets-splice s at xs h))

pub packed_from : (p x : ℕ) → x < 10 ^ p → p ≤ 38 → (negative : Bool) (s : List ℕ) (at : ℕ) → at + (p + 2) / 2 ≤ length s
    → set (put_mid at (at + p / 2 - at) s (take (19 - (19 - p / 2)) (drop (19 - p / 2) (pairs (digits 39 x))))) (at + p / 2) (get_or (pairs (digits 39 x)) 19 0 + sign_nibble negative)
    ≡ sets s at (encode_bcd p negative x)
packed_from p x h few negative s at room =
    let k : ℕ = p / 2 in
    let xs : List ℕ = hundreds k (x / 10) in
    let e : at + k - at ≡ k = omega arith in
    let n : length xs ≡ k = length-hundreds k (x / 10) in
    let put : put_mid at k s xs ≡ sets s at xs = rw n at (put_sets s xs at (rw n (omega arith))) in
    rw (e, digits_cut k x (omega arith), put, last_of x, encode_pairs p x h negative, sets-append, n)

pub last_digit : (x : ℕ) → get_or (pairs (digits 39 x)) 19 0 ≤ 144
last_digit x = rw (pairs-digits x, get_or_at (hundreds 19 (x / 10)) (x % 10 * 16) [] 0 19 (length-hundreds 19 (x / 10))) (omega arith)

-- ---- digits up to place i are to be stored over zeros, so that `all` stands there

pub record Filling (all s : List ℕ) (i n : ℕ) : Type 0 where
  pub fresh : Fresh s i n
  pub stored : sets s 0 (hundreds i n) ≡ all

take-sets : (n : ℕ) (s xs : List ℕ) → n + length xs ≤ length s → take n (sets s n xs) ≡ take n s
take-sets n s xs h = rw (sets-splice s n xs h) (take_at (take n s) _ n (length-take-le n s (omega arith)))

module _ {all s : List ℕ} {i n : ℕ} (f : Filling all s i n) where
  -- the last 2 k of them
  pub fill_more : (k : ℕ) → k ≤ i → Filling all (sets s (i - k) (hundreds k n)) (i - k) (n / 100 ^ k)
  fill_more k h =
      let m : ℕ = i - k in
      let e : i - k + k ≡ i = omega arith in
      let l : length (hundreds m (n / 100 ^ k)) ≡ m = length-hundreds m (n / 100 ^ k) in
      let inside : m + length (hundreds k n) ≤ length s = rw (length-hundreds k n, e) f.fresh.inside in
      record {
        fresh = record {
          inside = rw length-sets (omega (arith, f.fresh.inside));
          zeros = take-sets m s (hundreds k n) inside ∙ sym (take-take m i s (omega arith)) ∙ ap (take m) f.fresh.zeros ∙ take-replicate m i (omega arith);
          room = (div-lt_iff_lt-mul {k = 100 ^ k} {x = n} {y = 100 ^ m} (one-le-pow k 100 (omega arith))).1 (rw (← pow-add 100 m k, e) f.fresh.room);
        };
        stored = sym (sets_comm s 0 m (hundreds m (n / 100 ^ k)) (hundreds k n) (rw l (omega arith)))
            ∙ sets_then s 0 m (hundreds m (n / 100 ^ k)) (hundreds k n) l refl (rw zero-add)
            ∙ ap (sets s 0) (sym (hundreds-split m k n)) ∙ ap (λ (j : ℕ). sets s 0 (hundreds j n)) e ∙ f.stored;
      }

  -- no digit is left, or no place
  pub fill_end : n ≡ 0 → s ≡ all
  fill_end z =
      let e : hundreds i n ≡ take i s = ap (hundreds i) z ∙ hundreds-zero i ∙ sym f.fresh.zeros in
      sym (sets_self s 0 i (omega (arith, f.fresh.inside))) ∙ ap (sets s 0) (sym e) ∙ f.stored

  pub fill_full : i ≤ 0 → s ≡ all
  unfolding hundreds
  fill_full h = let z : i ≡ 0 = omega arith in rw z at f.stored

  -- more than 64 bits are left only where there is room for eight digits
  pub fill_long : 2 ^ 64 ≤ n → 4 ≤ i
  fill_long h =
      cases i 4
      (λ k. let r : n < 100 ^ 3 = lt_of_lt_of_le f.fresh.room (pow-le-pow_right {n = 100} (lit≤ tt) {i = i} {j = 3} (omega arith)) in absurd (omega arith))
      (λ k. k)

  pub fill_eight : 4 ≤ i → Filling all (sets s (i - 4) (hundreds 4 (n % 100000000))) (i - 4) (n / 100000000)
  fill_eight h = rw (hundreds_last n) (fill_more 4 h)

  pub fill_two : 0 < i → Filling all (set s (i - 1) (two_digits (n % 100))) (i - 1) (n / 100)
  unfolding hundreds
  fill_two h =
      let e : n / 100 ^ 1 ≡ n / 100 = omega arith in
      let d : n / 100 ^ 0 % 100 ≡ n % 100 = omega arith in
      rw (e, d) at (fill_more 1 h)

-- what 128 bits hold has at most 39 digits
pub wide-room : (n : ℕ) → n < 2 ^ 128 → n / 10 < 100 ^ 19
wide-room n h = (div-lt_iff_lt-mul {k = 10} {x = n} {y = 100 ^ 19} (lit≤ tt)).1 (lt_of_lt_of_le h (lit≤ tt))

-- twenty zeros, of which the last has the last digit
pub fill_start : (x : ℕ) → x / 10 < 100 ^ 19 → Filling (pairs (digits 39 x)) (set (replicate 20 0) 19 (x % 10 * 16)) 19 (x / 10)
fill_start x h =
    record {
      fresh = record { inside = omega arith; zeros = refl; room = h };
      stored = sets-start (set (replicate 20 0) 19 (x % 10 * 16)) (hundreds 19 (x / 10)) (rw length-hundreds (omega arith)) ∙ rw length-hundreds (sym (pairs-digits x));
    }

-- and eight digits more
nine : (x : ℕ) → (x % 1000000000 % 10 ≡ x % 10) × ((x % 1000000000 / 10 ≡ x / 10 % 100000000) × (x / 10 / 100000000 ≡ x / 1000000000))
nine x = (omega arith, (omega arith, omega arith))

pub fill_nine : (x : ℕ) → x / 10 < 100 ^ 19
    → Filling (pairs (digits 39 x)) (sets (set (replicate 20 0) 19 (x % 1000000000 % 10 * 16)) 15 (hundreds 4 (x % 1000000000 / 10))) 15 (x / 1000000000)
fill_nine x h =
    let e = nine x in
    rw (e.0, e.1.0, hundreds_last (x / 10)) (rw e.1.1 at (fill_more (fill_start x h) 4 (lit≤ tt)))
