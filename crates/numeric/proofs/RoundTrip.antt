-- A packed number is read back.
use Prim.Native.Nat.{ℕ, zero, suc, ◌+◌, ◌*◌, ◌/◌, ◌%◌, ◌^◌, ◌<◌}
use mathlib.Core.Path.{◌≡◌, refl, ap, ◌∙◌}
use mathlib.Core.Bool.{Bool, true, false}
use mathlib.Core.List.{List, [], ◌∷◌, ◌++◌, append_assoc}
use native.Mathlib.Nat.{mod-eq_of_lt}
use native.Mathlib.Omega.{arith}
use lib.ListN.{length, get_or, take, drop, replicate, length-append, length-replicate}
use lib.Seq.{get_or_at, take-append_seam, drop-append_seam}
use borrow.Author.Tests.{le-leb}
use Rattle.laws.proofs.Bytes.{Below}
use Rattle.std.specs.Prelude.{Some}
use Rattle.numeric.specs.Decimal.{digits}
use Rattle.numeric.specs.Packed.{pairs, nibbles, front_size, sign_nibble, encode_bcd, all_digits, signed, decode_bcd}
use Rattle.numeric.proofs.Digits.{length_digits, denote-digits}

below-append : (m : ℕ) (xs ys : List ℕ) → Below m xs → Below m ys → Below m (xs ++ ys)
below-append m [] ys a b = b
below-append m (x ∷ xs) ys a b = (a.0, below-append m xs ys a.1 b)

below-zeros : (n m : ℕ) → 0 < m → Below m (replicate n 0)
below-zeros zero m h = tt
below-zeros (suc n) m h = (h, below-zeros n m h)

below-digits : (n x : ℕ) → Below 16 (digits n x)
unfolding digits
below-digits zero x = tt
below-digits (suc n) x = (omega arith, below-digits n x)

below_sign : (negative : Bool) → Below 16 (sign_nibble negative ∷ [])
below_sign true = (omega arith, tt)
below_sign false = (omega arith, tt)

nibbles-pairs : (ns : List ℕ) → Below 16 ns → length ns % 2 ≡ 0 → nibbles (pairs ns) ≡ ns
nibbles-pairs [] b e = refl
nibbles-pairs (x ∷ []) b e = absurd (omega arith)
nibbles-pairs (x ∷ y ∷ ns) b e =
    let bx : x < 16 = b.0 in
    let by : y < 16 = b.1.0 in
    let high : (x * 16 + y) / 16 ≡ x = omega arith in
    let low : (x * 16 + y) % 16 ≡ y = omega arith in
    rw (high, low, nibbles-pairs ns b.1.1 (omega arith))

all_digits_lem : (n x : ℕ) → all_digits (digits n x) ≡ true
unfolding digits
all_digits_lem zero x = refl
all_digits_lem (suc n) x = rw (le-leb (x / 10 ^ n % 10) 9 (omega arith), all_digits_lem n x)

module _ (p : ℕ) (negative : Bool) (x : ℕ) where
  front : List ℕ
  front = replicate (front_size p) 0

  packed : List ℕ
  packed = front ++ (digits p x ++ (sign_nibble negative ∷ []))

  length_front : length front ≡ front_size p
  unfolding front
  length_front = length-replicate (front_size p) 0

  read-nibbles : nibbles (encode_bcd p negative x) ≡ packed
  unfolding encode_bcd packed front
  read-nibbles =
      rw length_digits
      (nibbles-pairs (replicate (front_size p) 0 ++ (digits p x ++ (sign_nibble negative ∷ [])))
      (below-append 16 (replicate (front_size p) 0) _ (below-zeros (front_size p) 16 (omega arith)) (below-append 16 (digits p x) _ (below-digits p x) (below_sign negative)))
      (rw (length-append, length-append, length_digits, length-replicate) (omega arith)))

  read_sign : get_or packed (front_size p + p) 0 ≡ sign_nibble negative
  unfolding packed
  read_sign = rw (← append_assoc front (digits p x) (sign_nibble negative ∷ [])) (get_or_at (front ++ digits p x) (sign_nibble negative) [] 0 (front_size p + p) (rw (length-append, length_front, length_digits)))

  read-digits : take p (drop (front_size p) packed) ≡ digits p x
  unfolding packed
  read-digits =
      let d : drop (front_size p) packed ≡ digits p x ++ (sign_nibble negative ∷ []) = rw length_front at (drop-append_seam front (digits p x ++ (sign_nibble negative ∷ []))) in
      ap (take p) d ∙ rw (length_digits p x) at (take-append_seam (digits p x) (sign_nibble negative ∷ []))

sign_read : (negative : Bool) (x : ℕ) → signed (sign_nibble negative) (Some x) ≡ Some (negative, x)
sign_read true x = refl
sign_read false x = refl

-- a number of at most p digits, packed with its sign, is read back
pub decode_encode : (p : ℕ) (negative : Bool) (x : ℕ) → x < 10 ^ p → decode_bcd p (encode_bcd p negative x) ≡ Some (negative, x)
decode_encode p negative x h =
    rw (read-nibbles p negative x, read_sign p negative x, read-digits p negative x, all_digits_lem p x, denote-digits p x, mod-eq_of_lt h) (sign_read negative x)
