-- Bits packed into bytes and unpacked again: they come back.
use Prim.Native.Nat.{ℕ, zero, suc, ◌+◌, ◌*◌, ◌/◌, ◌^◌, ◌≤◌, ◌<◌}
use mathlib.Core.Path.{◌≡◌, refl, ap, ◌∙◌}
use mathlib.Core.List.{List, [], ◌∷◌, ◌++◌}
use native.Mathlib.Nat.{mod-lt, add_comm, pow-suc, mul-le-mul_right, add-mul-div_right}
use native.Mathlib.Omega.{arith}
use lib.ListN.{length, take, drop, length-drop, take-append-drop}
use lib.Pow.{pow_pos, high}
use lib.Seq.{take-append-le, take_all, length-take-le}
use Rattle.laws.specs.Bits.{bit_of}
use Rattle.laws.proofs.Bytes.{Below, below-drop, below-take}
use Rattle.laws.proofs.Truths.{cases}
use Rattle.bit_utils.specs.Bits.{bytes_for, low_bits, byte_bits, all_bits, pack_byte, pack_bytes, pack_bits, unpack_bits}
use Rattle.bit_utils.proofs.Packing.{length-all, take-cons}

-- ---- one byte

-- what stands above w bits changes none of them
low_above : (w x b : ℕ) → low_bits w (b + x * 2 ^ w) ≡ low_bits w b
low_above zero x b = refl
low_above (suc w) x b =
    let e : x * 2 ^ suc w ≡ x * 2 * 2 ^ w = rw (pow-suc 2 w) (omega arith) in
    let top : bit_of w (b + x * 2 * 2 ^ w) ≡ bit_of w b = rw (add-mul-div_right b (x * 2) (pow_pos w)) (omega arith) in
    rw (e, top, low_above w (x * 2) b)

pack_below : (w : ℕ) (xs : List ℕ) → Below 2 xs → pack_byte w xs < 2 ^ w
pack_below zero xs a = omega arith
pack_below (suc w) [] a = pow_pos (suc w)
pack_below (suc w) (x ∷ xs) a =
    let l = pack_below w xs a.1 in
    let m = mul-le-mul_right {m = x} {n = 1} (2 ^ w) (omega (arith, a.0)) in
    rw (pow-suc 2 w) (omega arith)

-- bits in a byte, zeros behind them
byte_unpacked : (w : ℕ) (xs : List ℕ) → Below 2 xs → length xs ≤ w
    → take (length xs) (low_bits w (pack_byte w xs)) ≡ xs
byte_unpacked zero [] a h = refl
byte_unpacked zero (x ∷ xs) a h = absurd (omega arith)
byte_unpacked (suc w) [] a h = refl
byte_unpacked (suc w) (x ∷ xs) a h =
    let p : ℕ = pack_byte w xs in
    let top : bit_of w (x * 2 ^ w + p) ≡ x = rw (high x w (pack_below w xs a.1)) (omega (arith, a.0)) in
    let rest : low_bits w (x * 2 ^ w + p) ≡ low_bits w p = ap (low_bits w) (add_comm (x * 2 ^ w) p) ∙ low_above w x p in
    rw (top, rest, byte_unpacked w xs a.1 (omega arith))

-- ---- bytes

module _ (k : ℕ) (xs : List ℕ) (a : Below 2 xs) where
  -- less than a byte is in the first one, and so are the first 8 bits of more
  few : length xs < 8 → take (length xs) (all_bits (pack_bytes (suc k) xs)) ≡ xs
  few l =
      let first : ℕ = pack_byte 8 (take 8 xs) in
      let e : take 8 xs ≡ xs = take_all 8 xs (omega arith) in
      take-append-le (length xs) (byte_bits first) (all_bits (pack_bytes k (drop 8 xs))) (omega arith)
      ∙ ap (λ (l : List ℕ). take (length xs) (byte_bits (pack_byte 8 l))) e
      ∙ byte_unpacked 8 xs a (omega arith)

  full : 8 ≤ length xs → byte_bits (pack_byte 8 (take 8 xs)) ≡ take 8 xs
  full h =
      let e : length (take 8 xs) ≡ 8 = length-take-le 8 xs h in
      rw e at (byte_unpacked 8 (take 8 xs) (below-take 2 8 xs a) (omega arith))

bytes_unpacked : (k : ℕ) (xs : List ℕ) → Below 2 xs → length xs ≤ k * 8
    → take (length xs) (all_bits (pack_bytes k xs)) ≡ xs
bytes_unpacked zero [] a h = refl
bytes_unpacked zero (x ∷ xs) a h = absurd (omega arith)
bytes_unpacked (suc k) xs a h =
    let n : ℕ = length (drop 8 xs) in
    cases (length xs) 8 (few k xs a)
    (λ l.
    let e : length xs ≡ 8 + n = rw length-drop (omega arith) in
    let rest : take n (all_bits (pack_bytes k (drop 8 xs))) ≡ drop 8 xs
    = bytes_unpacked k (drop 8 xs) (below-drop 2 8 xs a) (omega arith) in
    take-cons (length xs) n (pack_byte 8 (take 8 xs)) (pack_bytes k (drop 8 xs)) e
    ∙ ap (λ (l : List ℕ). byte_bits (pack_byte 8 (take 8 xs)) ++ l) rest
    ∙ ap (λ (l : List ℕ). l ++ drop 8 xs) (full k xs a l)
    ∙ take-append-drop 8 xs)

-- ---- a bit string of n bits

pub unpack_pack : (n : ℕ) (xs : List ℕ) → length xs ≡ n → Below 2 xs → unpack_bits n (pack_bits n xs) ≡ xs
unpack_pack n xs h a = rw h at (bytes_unpacked (bytes_for n) xs a (omega arith))

-- the bits of bytes are bits
below-low : (w b : ℕ) (xs : List ℕ) → Below 2 xs → Below 2 (low_bits w b ++ xs)
below-low zero b xs a = a
below-low (suc w) b xs a = (mod-lt (b / 2 ^ w) (omega arith), below-low w b xs a)

below_all : (bs : List ℕ) → Below 2 (all_bits bs)
below_all [] = tt
below_all (b ∷ bs) = below-low 8 b (all_bits bs) (below_all bs)

-- the first n bits of bytes come back
pub bits_back : (n : ℕ) (bs : List ℕ) → bytes_for n ≤ length bs
    → unpack_bits n (pack_bits n (unpack_bits n bs)) ≡ unpack_bits n bs
bits_back n bs h =
    let l : n ≤ length (all_bits bs) = rw (length-all bs) (omega arith) in
    unpack_pack n (unpack_bits n bs) (length-take-le n (all_bits bs) l) (below-take 2 n (all_bits bs) (below_all bs))
