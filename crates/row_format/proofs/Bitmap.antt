-- The null bitmap: its length, its bits, and one bit put.
use Prim.Native.Nat.{ℕ, zero, suc, ◌+◌, ◌*◌, ◌/◌, ◌%◌, ◌^◌, ◌≤◌, ◌<◌}
use mathlib.Core.Path.{◌≡◌, refl, ap, ◌∙◌}
use mathlib.Core.List.{List, [], ◌∷◌}
use mathlib.Core.Option.{none, some}
use native.Mathlib.Nat.{zero-div, pow-suc}
use native.Mathlib.Numerals.{one-add}
use native.Mathlib.Omega.{arith}
use lib.ListN.{length, get_or, take, drop, set, length-take, length-drop}
use lib.Pow.{shr-shr}
use lib.Seq.{get_or-take, get_or-drop, drop-drop, take-set-le, take-set-lt, drop-set-lt, drop-set-add}
use Rattle.laws.specs.Bits.{bit_of, put_bit, bit_at, put_bit_at}
use Rattle.laws.proofs.Bits.{bit_le}
use Rattle.row_format.specs.Table.{Cell}
use Rattle.row_format.specs.Row.{null_bit, bits_value, bitmap}

pub length-bitmap : (k : ℕ) (cs : List Cell) → length (bitmap k cs) ≡ k
length-bitmap zero cs = refl
length-bitmap (suc k) cs = ap suc (length-bitmap k (drop 8 cs))

pub null-bit-le : (c : Cell) → null_bit c ≤ 1
null-bit-le none = omega arith
null-bit-le (some b) = omega arith

-- the bits above the lowest
pub upper_bits : (c : Cell) (m r : ℕ) → (null_bit c + 2 * m) / 2 ^ suc r ≡ m / 2 ^ r
upper_bits c m r =
    let l = null-bit-le c in
    let e : (null_bit c + 2 * m) / 2 ≡ m = omega arith in
    rw (← one-add r, ← shr-shr (null_bit c + 2 * m) 1 r, e)

bits_value_lem : (cs : List Cell) (r : ℕ) → bit_of r (bits_value cs) ≡ null_bit (get_or cs r (some []))
bits_value_lem [] r = rw zero-div
bits_value_lem (c ∷ cs) zero = let l = null-bit-le c in omega arith
bits_value_lem (c ∷ cs) (suc r) = rw upper_bits (bits_value_lem cs r)

bitmap_byte : (k : ℕ) (cs : List Cell) (j : ℕ) → j < k → get_or (bitmap k cs) j 0 ≡ bits_value (take 8 (drop (j * 8) cs))
bitmap_byte zero cs j h = absurd (omega arith)
bitmap_byte (suc k) cs zero h = refl
bitmap_byte (suc k) cs (suc j) h =
    let e : 8 + j * 8 ≡ suc j * 8 = omega arith in
    bitmap_byte k (drop 8 cs) j (omega arith) ∙ ap (λ (l : List Cell). bits_value (take 8 l)) (drop-drop (j * 8) 8 cs ∙ ap (λ (n : ℕ). drop n cs) e)

-- bit i is set exactly if cell i is null; past the last cell it is clear
pub bitmap-bit : (k : ℕ) (cs : List Cell) (i : ℕ) → i < k * 8 → bit_at i (bitmap k cs) ≡ null_bit (get_or cs i (some []))
bitmap-bit k cs i h =
    let e : i / 8 * 8 + i % 8 ≡ i = omega arith in
    ap (bit_of (i % 8)) (bitmap_byte k cs (i / 8) (omega arith))
    ∙ bits_value_lem (take 8 (drop (i / 8 * 8) cs)) (i % 8)
    ∙ ap null_bit (get_or-take 8 (drop (i / 8 * 8) cs) (i % 8) (some []) (omega arith) ∙ get_or-drop (i / 8 * 8) cs (i % 8) (some []) ∙ ap (λ (n : ℕ). get_or cs n (some [])) e)

-- a bit put is a cell set
bits_put : (cs : List Cell) (r : ℕ) (c : Cell) → r < length cs → put_bit (null_bit c) r (bits_value cs) ≡ bits_value (set cs r c)
bits_put [] r c h = absurd (omega arith)
bits_put (d ∷ cs) zero c h = let l = null-bit-le d in omega arith
bits_put (d ∷ cs) (suc r) c h =
    let ih = bits_put cs r c (omega arith) in
    let b = bit_le r (bits_value cs) in
    rw (upper_bits, pow-suc) (omega arith)

-- bit r of byte j
byte_put : (k : ℕ) (cs : List Cell) (j r : ℕ) (c : Cell) → r < 8 → j * 8 + r < length cs → set (bitmap k cs) j (put_bit (null_bit c) r (get_or (bitmap k cs) j 0)) ≡ bitmap k (set cs (j * 8 + r) c)
byte_put zero cs j r c h l = refl
byte_put (suc k) cs zero r c h l =
    let e : 0 * 8 + r ≡ r = omega arith in
    let m : r < length (take 8 cs) = simp length-take (omega arith) in
    rw (e, take-set-lt 8 cs r c h, drop-set-lt 8 cs r c h, bits_put (take 8 cs) r c m)
byte_put (suc k) cs (suc j) r c h l =
    let e : suc j * 8 + r ≡ 8 + (j * 8 + r) = omega arith in
    let m : 8 ≤ 8 + (j * 8 + r) = omega arith in
    rw (e, take-set-le 8 cs (8 + (j * 8 + r)) c m, drop-set-add 8 cs (j * 8 + r) c) (ap (λ (l : List ℕ). bits_value (take 8 cs) ∷ l) (byte_put k (drop 8 cs) j r c h (simp length-drop (omega arith))))

pub put-bitmap : (k : ℕ) (cs : List Cell) (i : ℕ) (c : Cell) → i < length cs → put_bit_at (null_bit c) i (bitmap k cs) ≡ bitmap k (set cs i c)
put-bitmap k cs i c h =
    let e : i / 8 * 8 + i % 8 ≡ i = omega arith in
    byte_put k cs (i / 8) (i % 8) c (omega arith) (omega arith) ∙ ap (λ (n : ℕ). bitmap k (set cs n c)) e
