-- The order of platforms, and then of arrivals, is that of std.
use Rattle.std.specs.Prelude.{ℕ, Bool, true, false, cond, List, [], ◌∷◌, ◌≡◌, refl, eqb, ltb, Option as Found, None, Some}
use Rattle.std.specs.declared.cmp.Ordering.{Ordering}
use Rattle.std.specs.declared.cmp.Ordering.TheVariants.{Equal, Greater, Less}
use Rattle.std.specs.Ordering.{nat_cmp, ordering_then, is_lt, is_gt}
use Rattle.std.specs.Cmp.Lexicographic.{slice_cmp}
use Rattle.std.specs.Option.{option_cmp, option_map}
use mathlib.Core.Path.{sym}
use native.Mathlib.Omega.{arith}
use borrow.Author.Tests.{ne_eqb, eq-eqb, lt-ltb, le-ltb}
use Rattle.laws.proofs.Truths.{cases}
use Rattle.occupation.specs.declared.Span.{Span}
use Rattle.occupation.specs.declared.Fields.{Fields}
use Rattle.occupation.specs.Order.{bytes_before, null_first, precedes}
use Rattle.occupation.specs.InnerFields.{bytes_of, spanned, moment_from, fields_shown}

-- ---- bytes

by_byte : (x y : ℕ) {t u : Bool} (o : Ordering) → t ≡ is_lt o → u ≡ is_gt o
    → (cond (ltb x y) true (cond (eqb x y) t false) ≡ is_lt (ordering_then (nat_cmp x y) o))
    × (cond (ltb y x) true (cond (eqb y x) u false) ≡ is_gt (ordering_then (nat_cmp x y) o))
by_byte x y o p q =
    cases x y (λ h. rw (lt-ltb x y h, le-ltb y x (omega arith), ne_eqb y x (λ e. omega arith)) (refl, refl))
    (λ h. cases y x (λ l. rw (le-ltb x y h, lt-ltb y x l, ne_eqb x y (λ e. omega arith)) (refl, refl))
    (λ l. rw (le-ltb x y h, le-ltb y x l, eq-eqb x y (omega arith), eq-eqb y x (omega arith)) (p, q)))

by_bytes : (a b : List ℕ) → (bytes_before a b ≡ is_lt (slice_cmp nat_cmp a b)) × (bytes_before b a ≡ is_gt (slice_cmp nat_cmp a b))
by_bytes [] [] = (refl, refl)
by_bytes [] (y ∷ ys) = (refl, refl)
by_bytes (x ∷ xs) [] = (refl, refl)
by_bytes (x ∷ xs) (y ∷ ys) = let e = by_bytes xs ys in by_byte x y (slice_cmp nat_cmp xs ys) e.0 e.1

-- ---- platforms, null first

abbrev by_platform : List ℕ → List ℕ → Found Span → Found Span → Ordering
by_platform r r' x y = option_cmp (slice_cmp nat_cmp) (option_map (bytes_of r) x) (option_map (bytes_of r') y)

by_platforms : (r r' : List ℕ) (x y : Found Span)
    → (null_first bytes_before (spanned r x) (spanned r' y) ≡ is_lt (by_platform r r' x y))
    × (null_first bytes_before (spanned r' y) (spanned r x) ≡ is_gt (by_platform r r' x y))
by_platforms r r' None None = (refl, refl)
by_platforms r r' None (Some y) = (refl, refl)
by_platforms r r' (Some x) None = (refl, refl)
by_platforms r r' (Some x) (Some y) = by_bytes (bytes_of r x) (bytes_of r' y)

-- what the texts that are lent have in them
held : {R : Type 0} (now : R → List ℕ) (p q : Found R) → option_cmp (λ x y. slice_cmp nat_cmp (now x) (now y)) p q ≡ option_cmp (slice_cmp nat_cmp) (option_map now p) (option_map now q)
held now None None = refl
held now None (Some y) = refl
held now (Some x) None = refl
held now (Some x) (Some y) = refl

-- ---- then arrivals

by_arrivals : (a b : Found ℕ) → null_first ltb (moment_from a) (moment_from b) ≡ is_lt (option_cmp nat_cmp a b)
by_arrivals None None = refl
by_arrivals None (Some b) = refl
by_arrivals (Some a) None = refl
by_arrivals (Some a) (Some b) = go (ltb a b) (eqb a b)
  where
    go : (s t : Bool) → s ≡ is_lt (cond s Less (cond t Equal Greater))
    go true t = refl
    go false true = refl
    go false false = refl

decided : (o : Ordering) (m : Bool) (n : Ordering) → m ≡ is_lt n → cond (is_lt o) true (cond (is_gt o) false m) ≡ is_lt (ordering_then o n)
decided Less m n e = refl
decided Equal m n e = e
decided Greater m n e = refl

pub in_order : {R : Type 0} (now : R → List ℕ) (r r' : List ℕ) (a b : Fields) (p q : Found R)
    → option_map now p ≡ option_map (bytes_of r) a.platform → option_map now q ≡ option_map (bytes_of r') b.platform
    → is_lt (ordering_then (option_cmp (λ x y. slice_cmp nat_cmp (now x) (now y)) p q) (option_cmp nat_cmp a.arrival b.arrival))
    ≡ precedes (fields_shown r a) (fields_shown r' b)
in_order now r r' a b p q ep eq =
    let e = by_platforms r r' a.platform b.platform in
    let m = decided (by_platform r r' a.platform b.platform) _ (option_cmp nat_cmp a.arrival b.arrival) (by_arrivals a.arrival b.arrival) in
    rw (held now p q, ep, eq, e.0, e.1) (sym m)
