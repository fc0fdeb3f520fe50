-- Two bit strings compared by whole bytes, and by the first bits of one byte more.
use Prim.Native.Nat.{ℕ, zero, suc, ◌+◌, ◌*◌, ◌-◌, ◌/◌, ◌%◌, ◌^◌, ◌≤◌, ◌<◌}
use mathlib.Core.Path.{◌≡◌, refl, sym, ap, ◌∙◌}
use mathlib.Core.Bool.{true, false, ◌&&◌}
use mathlib.Core.List.{List, [], ◌∷◌, ◌++◌}
use native.Mathlib.Nat.{zero-add, suc-add, add_comm, div-div-eq-div-mul, mul-div_cancel}
use native.Mathlib.Omega.{arith}
use lib.Dec.{eqb}
use lib.ListN.{length, get_or, take, drop}
use lib.Pow.{pow_pos, pow-add}
use lib.Seq.{take-append-le, drop-cons, length-take-le}
use borrow.Author.Tests.{eq-eqb, eqb-true}
use Rattle.laws.specs.Bytes.{same_bytes}
use Rattle.laws.proofs.Bytes.{Below, below-take, below_at}
use Rattle.laws.proofs.Truths.{same, and-true}
use Rattle.laws.proofs.Same.{same_self, same-eq, same-append}
use Rattle.bit_utils.specs.Bits.{bytes_for, low_bits, byte_bits, all_bits, pack_byte, unpack_bits}
use Rattle.bit_utils.proofs.Packing.{high-packed, byte_packed, length-all, take-cons}

-- the first k of k + m bits are the bits of the quotient
first_low : (k m b : ℕ) → take k (low_bits (k + m) b) ≡ low_bits k (b / 2 ^ m)
first_low zero m b = refl
first_low (suc k) m b =
    let e : b / 2 ^ (k + m) ≡ b / 2 ^ m / 2 ^ k = rw (add_comm k m, pow-add 2 m k) (sym (div-div-eq-div-mul b (2 ^ m) (2 ^ k))) in
    rw (suc-add k m, e, first_low k m b)

-- equal lists of bits, told by the bytes that they make
by_bytes : (p q : List ℕ) (x y : ℕ) → (p ≡ q → x ≡ y) → (x ≡ y → p ≡ q) → same_bytes p q ≡ eqb x y
by_bytes p q x y f g = same (λ t. eq-eqb x y (f (same-eq p q t))) (λ t. rw (g (eqb-true x y t)) (same_self q))

same_byte : (x y : ℕ) → x < 256 → y < 256 → same_bytes (byte_bits x) (byte_bits y) ≡ eqb x y
same_byte x y l k = by_bytes (byte_bits x) (byte_bits y) x y (λ e. sym (byte_packed x l) ∙ ap (pack_byte 8) e ∙ byte_packed y k) (λ e. ap byte_bits e)

same-high : (r x y : ℕ) → r ≤ 8 → x < 256 → y < 256
    → same_bytes (take r (byte_bits x)) (take r (byte_bits y)) ≡ eqb (pack_byte 8 (take r (byte_bits x))) (pack_byte 8 (take r (byte_bits y)))
same-high r x y h l k =
    let m : ℕ = 8 - r in
    let e : r + (8 - r) ≡ 8 = omega arith in
    let first : (b : ℕ) → take r (byte_bits b) ≡ low_bits r (b / 2 ^ (8 - r)) = λ b. rw e at (first_low r (8 - r) b) in
    let back : (b : ℕ) → b < 256 → pack_byte 8 (take r (byte_bits b)) / 2 ^ (8 - r) ≡ b / 2 ^ (8 - r)
    = λ b i. rw (← high-packed b r i h) (mul-div_cancel (b / 2 ^ (8 - r)) (pow_pos (8 - r))) in
    by_bytes (take r (byte_bits x)) (take r (byte_bits y)) _ _ (λ p. ap (pack_byte 8) p)
    (λ p. first x ∙ ap (low_bits r) (sym (back x l) ∙ ap (λ (b : ℕ). b / 2 ^ (8 - r)) p ∙ back y k) ∙ sym (first y))

same-all : (xs ys : List ℕ) → Below 256 xs → Below 256 ys → length xs ≡ length ys → same_bytes (all_bits xs) (all_bits ys) ≡ same_bytes xs ys
same-all [] [] a b e = refl
same-all [] (y ∷ ys) a b e = absurd (omega arith)
same-all (x ∷ xs) [] a b e = absurd (omega arith)
same-all (x ∷ xs) (y ∷ ys) a b e =
    same-append (byte_bits x) (byte_bits y) (all_bits xs) (all_bits ys) refl ∙ rw (same_byte x y a.0 b.0, same-all xs ys a.1 b.1 (omega arith))

-- n bits are those of whole bytes, and some of one more
split : (q r : ℕ) (bs : List ℕ) → q ≤ length bs → take (q * 8 + r) (all_bits bs) ≡ all_bits (take q bs) ++ take r (all_bits (drop q bs))
split zero r bs h = rw zero-add
split (suc q) r [] h = absurd (omega arith)
split (suc q) r (b ∷ bs) h = take-cons (suc q * 8 + r) (q * 8 + r) b bs (omega arith) ∙ rw (split q r bs (omega arith))

module _ (n : ℕ) (xs ys : List ℕ) (a : Below 256 xs) (b : Below 256 ys) (h : length xs ≡ bytes_for n) (k : length ys ≡ bytes_for n) where
  unpacked : (bs : List ℕ) → length bs ≡ bytes_for n → unpack_bits n bs ≡ all_bits (take (n / 8) bs) ++ take (n % 8) (all_bits (drop (n / 8) bs))
  unpacked bs l = let e : n / 8 * 8 + n % 8 ≡ n = omega arith in rw e at (split (n / 8) (n % 8) bs (omega arith))

  front : (bs : List ℕ) → length bs ≡ bytes_for n → length (take (n / 8) bs) ≡ n / 8
  front bs l = length-take-le (n / 8) bs (omega arith)

  parts : same_bytes (unpack_bits n xs) (unpack_bits n ys) ≡ (same_bytes (take (n / 8) xs) (take (n / 8) ys) && same_bytes (take (n % 8) (all_bits (drop (n / 8) xs))) (take (n % 8) (all_bits (drop (n / 8) ys))))
  parts =
      rw (unpacked xs h, unpacked ys k)
      (same-append (all_bits (take (n / 8) xs)) (all_bits (take (n / 8) ys)) (take (n % 8) (all_bits (drop (n / 8) xs))) (take (n % 8) (all_bits (drop (n / 8) ys))) (rw (length-all (take (n / 8) xs), length-all (take (n / 8) ys), front xs h, front ys k))
      ∙ rw (same-all (take (n / 8) xs) (take (n / 8) ys) (below-take 256 (n / 8) xs a) (below-take 256 (n / 8) ys b) (front xs h ∙ sym (front ys k))))

  -- the whole bytes decide
  pub same_whole : n % 8 ≡ 0 → same_bytes (take (n / 8) xs) (take (n / 8) ys) ≡ same_bytes (unpack_bits n xs) (unpack_bits n ys)
  same_whole e = rw (parts, e) (sym (and-true (same_bytes (take (n / 8) xs) (take (n / 8) ys))))

  pub same_none : same_bytes (take (n / 8) xs) (take (n / 8) ys) ≡ false → false ≡ same_bytes (unpack_bits n xs) (unpack_bits n ys)
  same_none e = rw (parts, e)

  -- or the first bits of the byte that follows
  last_bits_lem : (bs : List ℕ) → n / 8 < length bs → take (n % 8) (all_bits (drop (n / 8) bs)) ≡ take (n % 8) (byte_bits (get_or bs (n / 8) 0))
  last_bits_lem bs l = rw (drop-cons bs (n / 8) 0 l) (take-append-le (n % 8) (byte_bits (get_or bs (n / 8) 0)) (all_bits (drop (suc (n / 8)) bs)) (omega arith))

  pub same-part : (n % 8 ≡ 0 → ⊥) → same_bytes (take (n / 8) xs) (take (n / 8) ys) ≡ true
      → eqb (pack_byte 8 (take (n % 8) (byte_bits (get_or xs (n / 8) 0)))) (pack_byte 8 (take (n % 8) (byte_bits (get_or ys (n / 8) 0)))) ≡ same_bytes (unpack_bits n xs) (unpack_bits n ys)
  same-part u e =
      let l : n / 8 < bytes_for n = omega (arith, u) in
      let i : n / 8 < length xs = omega arith in
      let j : n / 8 < length ys = omega arith in
      rw (parts, e, last_bits_lem xs i, last_bits_lem ys j) (sym (same-high (n % 8) (get_or xs (n / 8) 0) (get_or ys (n / 8) 0) (omega arith) (below_at 256 xs (n / 8) i a) (below_at 256 ys (n / 8) j b)))
