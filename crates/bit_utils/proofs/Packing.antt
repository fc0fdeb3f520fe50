-- Bytes unpacked to bits and packed again: whole bytes come back, and of the last one its first bits.
use Prim.Native.Nat.{ℕ, zero, suc, ◌+◌, ◌*◌, ◌-◌, ◌/◌, ◌%◌, ◌^◌, ◌≤◌, ◌<◌}
use mathlib.Core.Path.{◌≡◌, refl, sym, ap, ◌∙◌}
use mathlib.Core.List.{List, [], ◌∷◌, ◌++◌}
use native.Mathlib.Nat.{zero-add, suc-add, zero-mul, mod-lt, div-eq_of_lt, add-mul-div_right, mul_assoc}
use native.Mathlib.Numerals.{one-add}
use native.Mathlib.Omega.{arith}
use lib.ListN.{length, get_or, set, take, drop, length-take, length-drop}
use lib.Pow.{pow_pos, pow-add, mod-pow-add}
use lib.Seq.{sets, take_all, take-append-add, length-take-le, get_or-take, get_or-drop}
use Rattle.laws.specs.Bits.{bit_of}
use Rattle.laws.proofs.Bytes.{Below, below-drop, below-take}
use Rattle.laws.proofs.Stores.{sets_self, part-set}
use Rattle.bit_utils.specs.Bits.{bytes_for, low_bits, byte_bits, all_bits, pack_byte, pack_bytes, pack_bits, unpack_bits}

pack_nil : (w : ℕ) → pack_byte w [] ≡ 0
pack_nil zero = refl
pack_nil (suc w) = refl

-- the first k of k + m bits
pub first_packed : (k m b : ℕ) → pack_byte (k + m) (take k (low_bits (k + m) b)) ≡ b % 2 ^ (k + m) / 2 ^ m * 2 ^ m
first_packed zero m b =
    let z : b % 2 ^ m / 2 ^ m ≡ 0 = div-eq_of_lt (mod-lt b (pow_pos m)) in
    rw (zero-add, pack_nil, z, zero-mul)
first_packed (suc k) m b =
    let x : ℕ = bit_of (k + m) b in
    let y : ℕ = b % 2 ^ (k + m) in
    let e : b % 2 ^ suc (k + m) ≡ y + x * 2 ^ k * 2 ^ m
    = rw (← one-add (k + m), mod-pow-add b 1 (k + m), pow-add 2 k m, mul_assoc) (omega arith) in
    rw (suc-add k m, first_packed k m b, e, add-mul-div_right y (x * 2 ^ k) (pow_pos m), pow-add 2 k m) (omega arith)

-- a byte, and its first k bits
pub high-packed : (b k : ℕ) → b < 256 → k ≤ 8 → b / 2 ^ (8 - k) * 2 ^ (8 - k) ≡ pack_byte 8 (take k (byte_bits b))
high-packed b k h l =
    let e : k + (8 - k) ≡ 8 = omega arith in
    let m : b % 256 ≡ b = omega arith in
    sym (rw (e, m) at (first_packed k (8 - k) b))

pub byte_packed : (b : ℕ) → b < 256 → pack_byte 8 (byte_bits b) ≡ b
byte_packed b h = sym (high-packed b 8 h (omega arith)) ∙ omega arith

-- ---- bytes

pub length-packed : (k : ℕ) (xs : List ℕ) → length (pack_bytes k xs) ≡ k
length-packed zero xs = refl
length-packed (suc k) xs = ap suc (length-packed k (drop 8 xs))

pub length-all : (xs : List ℕ) → length (all_bits xs) ≡ length xs * 8
length-all [] = refl
length-all (x ∷ xs) = rw (length-all xs) (omega arith)

pub take-cons : (n m b : ℕ) (bs : List ℕ) → n ≡ 8 + m → take n (all_bits (b ∷ bs)) ≡ byte_bits b ++ take m (all_bits bs)
take-cons n m b bs e = rw e (take-append-add (byte_bits b) (all_bits bs) m)

-- whole bytes
whole : (q : ℕ) (bs : List ℕ) → Below 256 bs → length bs ≡ q → pack_bytes q (take (q * 8) (all_bits bs)) ≡ bs
whole zero [] a h = refl
whole zero (b ∷ bs) a h = absurd (omega arith)
whole (suc q) [] a h = absurd (omega arith)
whole (suc q) (b ∷ bs) a h =
    ap (pack_bytes (suc q)) (take-cons (suc q * 8) (q * 8) b bs (omega arith)) ∙ rw (byte_packed b a.0, whole q bs a.1 (omega arith))

-- and r bits of one more
partial : (q r : ℕ) (bs : List ℕ) → Below 256 bs → r < 8 → length bs ≡ suc q
    → pack_bytes (suc q) (take (q * 8 + r) (all_bits bs)) ≡ set bs q (pack_byte 8 (take r (byte_bits (get_or bs q 0))))
partial q r [] a l h = absurd (omega arith)
partial zero r (b ∷ []) a l h = rw (zero-add, take_all 8 (take r (byte_bits b)) (rw length-take (omega arith)))
partial zero r (b ∷ c ∷ bs) a l h = absurd (omega arith)
partial (suc q) r (b ∷ bs) a l h =
    ap (pack_bytes (suc (suc q))) (take-cons (suc q * 8 + r) (q * 8 + r) b bs (omega arith)) ∙ rw (byte_packed b a.0, partial q r bs a.1 l (omega arith))

-- ---- a bit string of n bits in the bytes that it fills

module _ (n : ℕ) (bs : List ℕ) (a : Below 256 bs) (h : length bs ≡ bytes_for n) where
  pub repacked_part : n / 8 < length bs → set bs (n / 8) (pack_byte 8 (take (n % 8) (byte_bits (get_or bs (n / 8) 0)))) ≡ pack_bits n (unpack_bits n bs)
  repacked_part l =
      let q : bytes_for n ≡ suc (n / 8) = omega arith in
      let e : n / 8 * 8 + n % 8 ≡ n = omega arith in
      rw q (sym (rw e at (partial (n / 8) (n % 8) bs a (omega arith) (h ∙ q))))

  pub repacked_whole : length bs ≤ n / 8 → bs ≡ pack_bits n (unpack_bits n bs)
  repacked_whole l =
      let q : bytes_for n ≡ n / 8 = omega arith in
      let e : n / 8 * 8 ≡ n = omega arith in
      rw q (sym (rw e at (whole (n / 8) bs a (h ∙ q))))

-- ---- where the bytes stand in others, at `at`

module _ (s : List ℕ) (at n : ℕ) (a : Below 256 s) (h : at + bytes_for n ≤ length s) where
  length-bytes : length (take (bytes_for n) (drop at s)) ≡ bytes_for n
  length-bytes = length-take-le (bytes_for n) (drop at s) (rw length-drop (omega arith))

  below : Below 256 (take (bytes_for n) (drop at s))
  below = below-take 256 (bytes_for n) (drop at s) (below-drop 256 at s a)

  pub cleared : 0 < n % 8 → set s (at + n / 8) (pack_byte 8 (take (n % 8) (byte_bits (get_or s (at + n / 8) 0)))) ≡ sets s at (pack_bits n (unpack_bits n (take (bytes_for n) (drop at s))))
  cleared u =
      let l : n / 8 < bytes_for n = omega arith in
      let e : get_or s (at + n / 8) 0 ≡ get_or (take (bytes_for n) (drop at s)) (n / 8) 0 = sym (get_or-take (bytes_for n) (drop at s) (n / 8) 0 l ∙ get_or-drop at s (n / 8) 0) in
      rw e (part-set s at (bytes_for n) h (n / 8) _ l ∙ ap (sets s at) (repacked_part n (take (bytes_for n) (drop at s)) below length-bytes (rw length-bytes l)))

  pub kept : n % 8 ≡ 0 → s ≡ sets s at (pack_bits n (unpack_bits n (take (bytes_for n) (drop at s))))
  kept u = sym (sets_self s at (bytes_for n) h) ∙ ap (sets s at) (repacked_whole n (take (bytes_for n) (drop at s)) below length-bytes (rw length-bytes (omega arith)))
