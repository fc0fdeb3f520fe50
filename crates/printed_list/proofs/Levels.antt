-- Two occupations of which neither precedes the other are those of one platform and one arrival.
use mathlib.Core.Path.{◌≡◌, refl, sym, ap, ◌∙◌}
use mathlib.Core.Bool.{Bool, true, false, cond, false≢true}
use mathlib.Core.List.{[], ◌∷◌}
use mathlib.Core.Option.{none, some}
use native.Mathlib.Omega.{arith}
use lib.Dec.{ltb}
use borrow.Author.Tests.{lt-ltb, le-ltb, eq-eqb, ltb-false}
use Rattle.laws.proofs.Truths.{cases}
use Rattle.occupation.specs.Occupation.{Occupation}
use Rattle.occupation.specs.Order.{bytes_before, null_first, precedes}
use Rattle.occupation.proofs.Order.{precedes_ranks}
use Rattle.printed_list.specs.Sorted.{is_level}
use Rattle.printed_list.specs.Shown.{LevelIs}
use Rattle.printed_list.proofs.Ordering.{neither, level_self}

abbrev Tells : {A : Type 0} → (A → A → Bool) → Type 0
Tells {A} lt = (a b : A) → lt a b ≡ false → lt b a ≡ false → a ≡ b

numbers : Tells ltb
numbers a b h k = let l = ltb-false a b h in let m = ltb-false b a k in omega arith

nulls : {A : Type 0} (lt : A → A → Bool) → Tells lt → Tells (null_first lt)
nulls lt t none none h k = refl
nulls lt t none (some y) h k = absurd (false≢true (sym h))
nulls lt t (some x) none h k = absurd (false≢true (sym k))
nulls {A} lt t (some x) (some y) h k = ap (λ (z : A). some z) (t x y h k)

texts : Tells bytes_before
texts [] [] h k = refl
texts [] (y ∷ ys) h k = absurd (false≢true (sym h))
texts (x ∷ xs) [] h k = absurd (false≢true (sym k))
texts (x ∷ xs) (y ∷ ys) h k =
    cases x y (λ l. absurd (false≢true (sym h ∙ rw (lt-ltb x y l))))
    (λ m. cases y x (λ l. absurd (false≢true (sym k ∙ rw (lt-ltb y x l))))
    (λ n.
    let e : x ≡ y = omega arith in
    let rest = texts xs ys (rw (le-ltb x y m, eq-eqb x y e) at h) (rw (le-ltb y x n, eq-eqb y x (sym e)) at k) in
    (λ i. e i ∷ rest i)))

-- the platforms decide first
first_decides : (p q t : Bool) → cond p true (cond q false t) ≡ false → p ≡ false
first_decides true q t e = e
first_decides false q t e = refl

platform_decides : (a b : Occupation) → precedes a b ≡ false → null_first bytes_before a.platform b.platform ≡ false
platform_decides a b e =
    first_decides (null_first bytes_before a.platform b.platform) (null_first bytes_before b.platform a.platform)
    (null_first ltb a.arrival b.arrival) e

level_same : (a b : Occupation) → is_level precedes a b ≡ true → (a.platform ≡ b.platform) × (a.arrival ≡ b.arrival)
level_same a b e =
    let n = neither (precedes a b) (precedes b a) e in
    let p = platform_decides a b n.0 in
    let q = platform_decides b a n.1 in (
      nulls bytes_before texts a.platform b.platform p q,
      nulls ltb numbers a.arrival b.arrival (rw (p, q) at n.0) (rw (p, q) at n.1),
    )

same_level : (a b : Occupation) → a.platform ≡ b.platform → a.arrival ≡ b.arrival → is_level precedes a b ≡ true
same_level a b p q = rw (p, q) (level_self precedes_ranks b)

pub level_is : LevelIs
level_is a b = (level_same a b, λ e. same_level a b e.0 e.1)
