-- A number in decimal, and a refusal's line.
use Prim.Native.Nat.{ℕ, suc, ◌+◌, ◌/◌, ◌%◌, ◌≤◌, ◌<◌}
use mathlib.Core.Path.{◌≡◌, sym, ap, ◌∙◌}
use mathlib.Core.List.{List, [], ◌∷◌, ◌++◌}
use native.Mathlib.Nat.{div-one}
use native.Mathlib.Numerals.{add-one}
use native.Mathlib.Omega.{arith}
use borrow.Author.Tests.{lt-ltb, le-ltb}
use lib.ListN.{length, set, length-append}
use lib.Seq.{sets}
use Rattle.error.specs.declared.Refusal.{Refusal}
use Rattle.error.specs.Refusal.{number_of, place_of}
use Rattle.laws.proofs.Stores.{sets-append}
use Rattle.occupation_list.specs.Print.{decimal, refusal_line}
use Rattle.occupation_list.specs.InnerOrder.{numbers_line}

pub one_digit : (n : ℕ) → n < 10 → decimal n ≡ (48 + n % 10) ∷ []
one_digit n h = rw (lt-ltb n 10 h, div-one)

pub two_digits_lem : (n : ℕ) → 10 ≤ n → decimal n ≡ (48 + n / 10 % 10) ∷ (48 + n % 10) ∷ []
two_digits_lem n h = rw (le-ltb n 10 h, div-one)

pub length-line : (n p : ℕ) → length (numbers_line n p) ≡ length (decimal n) + length (decimal p) + 2
length-line n p = by (decimal n) (decimal p)
  where
    by : (xs ys : List ℕ) → length (xs ++ (0x20 ∷ (ys ++ (0x0A ∷ [])))) ≡ length xs + length ys + 2
    by xs ys = simp length-append (omega arith)

-- a line of two texts, with u between them and v behind
pub line-stored : (out xs ys : List ℕ) (u v : ℕ) {s e : ℕ} {p q : List ℕ} → s ≡ 0 + length xs → p ≡ sets out 0 xs → e ≡ s + 1 + length ys → q ≡ sets (set p s u) (s + 1) ys → set q e v ≡ sets out 0 (xs ++ (u ∷ (ys ++ (v ∷ []))))
line-stored out xs ys u v {s} a b c d =
    rw (d, c, b, a) (sym (sets-append out 0 xs (u ∷ (ys ++ (v ∷ []))) ∙ sets-append (set (sets out 0 xs) (0 + length xs) u) (suc (0 + length xs)) ys (v ∷ []) ∙ rw add-one))

pub one-stored : (out : List ℕ) (at n : ℕ) {d : ℕ} → n < 10 → d ≡ 48 + n % 10 → set out at d ≡ sets out at (decimal n)
one-stored out at n h e = ap (set out at) e ∙ sym (ap (sets out at) (one_digit n h))

pub two-stored : (out : List ℕ) (at n : ℕ) {d e : ℕ} → 10 ≤ n → d ≡ 48 + n / 10 % 10 → e ≡ 48 + n % 10 → set (set out at d) (at + 1) e ≡ sets out at (decimal n)
two-stored out at n h p q = rw (p, q, add-one) (sym (ap (sets out at) (two_digits_lem n h)))

pub refusal-line : (e : Refusal) {n p : ℕ} → n ≡ number_of e → p ≡ place_of e → numbers_line n p ≡ refusal_line e
refusal-line e {n} {p} a b = ap (λ (m : ℕ). numbers_line m p) a ∙ ap (numbers_line (number_of e)) b
