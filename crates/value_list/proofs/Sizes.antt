-- The record at a place by its number of bytes: none, or all of them inside the list.
use Rattle.std.specs.Prelude.{Err, Ok, Some, unwrap_or}
use Rattle.std.proofs.lemmas.Option.{none-some}
use Prim.Native.Nat.{ℕ, zero, suc, ◌+◌, ◌-◌, ◌≤◌, ◌<◌}
use mathlib.Core.Path.{◌≡◌, refl, ap}
use mathlib.Core.List.{List}
use native.Mathlib.Omega.{arith}
use borrow.Author.Tests.{lt-ltb, le-ltb}
use mathlib.Core.Bool.{true}
use lib.ListN.{length, get_or}
use Rattle.value.specs.declared.DataValue.{DataValue}
use Rattle.error.specs.declared.Refusal.TheVariants.{BadValueList}
use Rattle.laws.proofs.Truths.{cases}
use Rattle.value_list.specs.Records.{body_length, range_width, value_at, record_of_kind, record_at}
use Rattle.value.specs.Kinds.{plain_kind, is_value_kind}
use Rattle.value_list.proofs.LongKinds.{either}
use Rattle.value_list.specs.InnerSizes.{size_of_kind, size_at, some_size}

-- the value of a kind's body at a place
abbrev pub body_value : ℕ → List ℕ → ℕ → DataValue
body_value k s at = value_at (range_width k) (plain_kind k) s at

-- a number that is none where it is 0
pub size_zero : (n : ℕ) → ((k : ℕ) → some_size n ≡ Some k → ⊥) → n ≡ 0
size_zero zero h = refl
size_zero (suc n) h = absurd (h (suc n) refl)

pub size_is : (n : ℕ) {k : ℕ} → some_size n ≡ Some k → (n ≡ 0 → ⊥) × (n ≡ k)
size_is zero e = absurd (none-some _ e)
size_is (suc n) e = (λ z. omega (arith, z), ap (λ o. unwrap_or o 0) e)

-- a record that is whole
pub record Whole (s : List ℕ) (at : ℕ) : Type 0 where
  pub value : record_at s at ≡ Ok ((body_value (get_or s at 0) s (at + 1)), (at + size_at s at))
  pub body : at + 1 + body_length (get_or s at 0) ≤ length s
  pub within : at + size_at s at ≤ length s
  pub some : 0 < size_at s at

-- a record of a known kind whose body is there
pub whole_of : (s : List ℕ) (at k : ℕ) → is_value_kind k ≡ true → at + 1 + body_length k ≤ length s → record_of_kind k s at ≡ Ok ((body_value k s (at + 1)), (at + (1 + body_length k)))
whole_of s at k g l = rw (g, le-ltb (length s) (at + 1 + body_length k) l) (ap ((λ z. Ok ((body_value k s (at + 1)), z))) (omega arith))

module _ (s : List ℕ) (at : ℕ) (h : at < length s) where
  none_of : (k : ℕ) → size_of_kind k s at ≡ 0 → record_of_kind k s at ≡ Err (BadValueList at)
  none_of k e =
      either (is_value_kind k)
      (λ g.
      cases (length s) (at + 1 + body_length k) (λ l. rw (g, lt-ltb (length s) (at + 1 + body_length k) l))
      (λ l.
      let z : 1 + body_length k ≡ 0 = rw (g, le-ltb (length s - at - 1) (body_length k) (omega arith)) at e in
      absurd (omega arith)))
      (λ g. rw g)

  pub size_none : size_at s at ≡ 0 → record_at s at ≡ Err (BadValueList at)
  size_none e = none_of (get_or s at 0) e

  some_of : (k : ℕ) → (size_of_kind k s at ≡ 0 → ⊥) → (at + 1 + body_length k ≤ length s) × ((size_of_kind k s at ≡ 1 + body_length k) × (is_value_kind k ≡ true))
  some_of k n =
      either (is_value_kind k)
      (λ g.
      cases (length s) (at + 1 + body_length k) (λ l. absurd (n (rw (g, lt-ltb (length s - at - 1) (body_length k) (omega arith)))))
      (λ l. (l, (rw (g, le-ltb (length s - at - 1) (body_length k) (omega arith)), g))))
      (λ g. absurd (n (rw g)))

  pub size-some : (size_at s at ≡ 0 → ⊥) → Whole s at
  size-some n =
      let f = some_of (get_or s at 0) n in
      let k : ℕ = get_or s at 0 in
      let l : at + 1 + body_length k ≤ length s = f.0 in
      let z : size_at s at ≡ 1 + body_length k = f.1.0 in
      record { value = rw z (whole_of s at k f.1.1 l); body = l; within = rw z (omega arith); some = rw z (omega arith) }
