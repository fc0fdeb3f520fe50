-- The number of tails among bytes.
use Prim.Native.Nat.{ℕ, zero, suc, ◌+◌, ◌-◌, ◌<◌, ◌≤◌}
use mathlib.Core.Path.{◌≡◌, refl, ◌∙◌}
use mathlib.Core.Bool.{Bool, true, false}
use mathlib.Core.List.{List, ◌∷◌}
use mir.Syntax.{w8}
use mir.Val.{Fits, bool_byte}
use native.Mathlib.Nat.{zero-add}
use native.Mathlib.Numerals.{one-add}
use native.Mathlib.Omega.{arith}
use lib.ListN.{length, get_or}
use Rattle.text.specs.Rfc3629.{within, utf8_tail}
use Rattle.text.specs.InnerTails.{tails_of}

byte_le : (t : Bool) → bool_byte t ≤ 1
byte_le true = omega arith
byte_le false = omega arith

-- one more in a byte
pub byte_fits : (t : Bool) {n : ℕ} → n < 255 → Fits w8 (n + bool_byte t)
byte_fits t h = let k = byte_le t in record { fits = omega arith }

-- the tail at an index, as a number
abbrev tail_at : List ℕ → ℕ → ℕ
tail_at s i = bool_byte (within utf8_tail (get_or s i 0))

-- ---- none, one more, and two runs

pub tails_none : (s : List ℕ) (first : ℕ) → tails_of s first 0 ≡ 0
unfolding tails_of
tails_none s first = refl

pub tails_more : (s : List ℕ) (first n : ℕ) → tails_of s first (n + 1) ≡ tails_of s first n + tail_at s (first + n)
unfolding tails_of
tails_more s first n = let e : n + 1 ≡ suc n = omega arith in rw e

pub tails_le : (s : List ℕ) (first n : ℕ) → tails_of s first n ≤ n
unfolding tails_of
tails_le s first zero = omega arith
tails_le s first (suc n) =
    let h = tails_le s first n in
    let k = byte_le (within utf8_tail (get_or s (first + n) 0)) in
    omega arith

pub tails_add : (s : List ℕ) (first m n : ℕ) → tails_of s first (m + n) ≡ tails_of s first m + tails_of s (first + m) n
unfolding tails_of
tails_add s first m zero = let e : m + 0 ≡ m = omega arith in rw e (omega arith)
tails_add s first m (suc n) =
    let e : m + suc n ≡ suc (m + n) = omega arith in
    let f : first + (m + n) ≡ first + m + n = omega arith in
    let h = tails_add s first m n in
    rw (e, f) (omega arith)

-- the tails of the first bytes and those of a run after them; of a run up to the end
pub tails_join : (s : List ℕ) (i n : ℕ) {count k : ℕ} → count ≡ tails_of s 0 i → k ≡ tails_of s i n
    → count + k ≡ tails_of s 0 (i + n)
tails_join s i n e f = rw (tails_add s 0 i n, zero-add, e, f)

pub tails_all : (s : List ℕ) (i : ℕ) {count k : ℕ} → count ≡ tails_of s 0 i → k ≡ tails_of s i (length s - i) → i ≤ length s
    → count + k ≡ tails_of s 0 (length s)
tails_all s i e f h = let q : i + (length s - i) ≡ length s = omega arith in tails_join s i (length s - i) e f ∙ rw q

-- they are no more than the bytes
pub tails_fit : (s : List ℕ) (i : ℕ) {count k : ℕ} → count ≡ tails_of s 0 i → k ≡ tails_of s i (length s - i) → i ≤ length s
    → count + k ≤ length s
tails_fit s i e f h =
    let q = tails_all s i e f h in
    let l = tails_le s 0 (length s) in
    omega arith

-- equal bytes at two places
pub tails_same : (s t : List ℕ) (first from n : ℕ) → ((i : ℕ) → i < n → get_or s (first + i) 0 ≡ get_or t (from + i) 0)
    → tails_of s first n ≡ tails_of t from n
unfolding tails_of
tails_same s t first from zero f = refl
tails_same s t first from (suc n) f =
    rw (f n (omega arith), tails_same s t first from n (λ i h. f i (omega arith)))

pub tails_first : (b : ℕ) (s : List ℕ)
    → tails_of (b ∷ s) 0 (suc (length s)) ≡ bool_byte (within utf8_tail b) + tails_of s 0 (length s)
tails_first b s =
    let e : suc (length s) ≡ 1 + length s = omega arith in
    let f = tails_more (b ∷ s) 0 0 in
    let g = tails_none (b ∷ s) 0 in
    let h = tails_same (b ∷ s) s 1 0 (length s) (λ i l. rw (one-add, zero-add)) in
    rw (e, tails_add (b ∷ s) 0 1 (length s)) (omega arith)
