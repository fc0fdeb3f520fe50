-- The months: the month of a day of the year by counting, and by one product.
use Prim.Native.Nat.{ℕ, suc, ◌+◌, ◌*◌, ◌-◌, ◌/◌, ◌%◌, ◌≤◌, ◌<◌}
use mathlib.Core.Path.{◌≡◌, refl, sym, ap, ◌∙◌}
use mathlib.Core.Bool.{Bool, true, false, cond}
use mathlib.Core.List.{List, [], ◌∷◌}
use native.Mathlib.Nat.{zero-add}
use native.Mathlib.Omega.{arith}
use lib.Dec.{ltb}
use lib.ListN.{length, take, get_or}
use borrow.Author.Tests.{ltb-true, ltb-false}
use Rattle.laws.proofs.Table.{table, table_rule}
use Rattle.laws.proofs.Bytes.{Below, below_at}
use Rattle.calendar.specs.Calendar.{february, month_days, month_from}
use Rattle.calendar.specs.InnerDays.{march_days}
use Rattle.calendar.specs.Days.{sum}

-- ---- by counting: p is the month that day n lies in, the first of ds being month m, and the day in it

pub record InMonth (ds : List ℕ) (m n : ℕ) (p : ℕ × ℕ) : Type 0 where
  pub place : ℕ
  pub month : p.0 ≡ m + place
  pub inside : place < length ds
  pub short : p.1 < get_or ds place 0
  pub sums : sum (take place ds) + p.1 ≡ n

month_step : (d : ℕ) (ds : List ℕ) (m n : ℕ) (later : ℕ × ℕ) (t : Bool) → ltb n d ≡ t → (d ≤ n → InMonth ds (suc m) (n - d) later) → InMonth (d ∷ ds) m n (cond t (m, n) later)
month_step d ds m n later true e k =
    let h = ltb-true n d e in
    record { place = 0; month = omega arith; inside = omega arith; short = h; sums = zero-add n }
month_step d ds m n later false e k =
    let h = ltb-false n d e in
    let i = k h in
    let s = i.sums in
    record { place = suc i.place; month = omega (arith, i.month); inside = omega (arith, i.inside); short = i.short; sums = omega arith }

pub in_month_lem : (ds : List ℕ) (m n : ℕ) → n < sum ds → InMonth ds m n (month_from ds m n)
in_month_lem [] m n h = absurd (omega arith)
in_month_lem (d ∷ ds) m n h = month_step d ds m n (month_from ds (suc m) (n - d)) (ltb n d) refl (λ l. in_month_lem ds (suc m) (n - d) (omega arith))

pub year_sum : (leap : Bool) → sum (month_days leap) ≡ cond leap 366 365
unfolding month_days
year_sum true = refl
year_sum false = refl

few_days : (leap : Bool) → Below 32 (month_days leap)
unfolding month_days
few_days true = omega arith
few_days false = omega arith

pub month_most : (leap : Bool) (k : ℕ) → k < 12 → get_or (month_days leap) k 0 < 32
unfolding month_days
month_most leap k h = below_at 32 (month_days leap) k h (few_days leap)

-- ---- from March on, by one product

agree : (f g : ℕ → ℕ) (n k : ℕ) → table f n 0 ≡ table g n 0 → k < n → f k ≡ g k
agree f g n k e h = sym (table_rule f n k h) ∙ ap (λ (l : List ℕ). get_or l k 0) e ∙ table_rule g n k h

both : (p q : ℕ × ℕ) → p.0 ≡ q.0 → p.1 ≡ q.1 → p ≡ q
both p q e f = ap (λ (m : ℕ). (m, p.1)) e ∙ ap (λ (r : ℕ). (q.0, r)) f

-- on each day of the year, by computation
pub month_of_lem : (d : ℕ) → d < 366 → ((d * 2141 + 197913) / 65536, (d * 2141 + 197913) % 65536 / 2141) ≡ month_from march_days 3 d
unfolding march_days
month_of_lem d h =
    both ((d * 2141 + 197913) / 65536, (d * 2141 + 197913) % 65536 / 2141) (month_from march_days 3 d)
    (agree (λ k. (k * 2141 + 197913) / 65536) (λ k. (month_from march_days 3 k).0) 366 d refl h)
    (agree (λ k. (k * 2141 + 197913) % 65536 / 2141) (λ k. (month_from march_days 3 k).1) 366 d refl h)

-- March to December of the year
pub later_months : (leap : Bool) (d : ℕ) → d < 306 → month_from (month_days leap) 1 (d + (31 + february leap)) ≡ month_from march_days 3 d
unfolding month_days march_days
later_months true d h =
    both (month_from (month_days true) 1 (d + 60)) (month_from march_days 3 d)
    (agree (λ k. (month_from (month_days true) 1 (k + 60)).0) (λ k. (month_from march_days 3 k).0) 306 d refl h)
    (agree (λ k. (month_from (month_days true) 1 (k + 60)).1) (λ k. (month_from march_days 3 k).1) 306 d refl h)
later_months false d h =
    both (month_from (month_days false) 1 (d + 59)) (month_from march_days 3 d)
    (agree (λ k. (month_from (month_days false) 1 (k + 59)).0) (λ k. (month_from march_days 3 k).0) 306 d refl h)
    (agree (λ k. (month_from (month_days false) 1 (k + 59)).1) (λ k. (month_from march_days 3 k).1) 306 d refl h)

-- January and February of the next
pub first_months : (leap : Bool) (k : ℕ) → k < 31 + february leap → month_from (month_days leap) 1 k ≡ ((month_from march_days 3 (k + 306)).0 - 12, (month_from march_days 3 (k + 306)).1)
unfolding month_days march_days
first_months true d h =
    both (month_from (month_days true) 1 d) ((month_from march_days 3 (d + 306)).0 - 12, (month_from march_days 3 (d + 306)).1)
    (agree (λ k. (month_from (month_days true) 1 k).0) (λ k. (month_from march_days 3 (k + 306)).0 - 12) 60 d refl h)
    (agree (λ k. (month_from (month_days true) 1 k).1) (λ k. (month_from march_days 3 (k + 306)).1) 60 d refl h)
first_months false d h =
    both (month_from (month_days false) 1 d) ((month_from march_days 3 (d + 306)).0 - 12, (month_from march_days 3 (d + 306)).1)
    (agree (λ k. (month_from (month_days false) 1 k).0) (λ k. (month_from march_days 3 (k + 306)).0 - 12) 59 d refl h)
    (agree (λ k. (month_from (month_days false) 1 k).1) (λ k. (month_from march_days 3 (k + 306)).1) 59 d refl h)

pub year_parts : (leap : Bool) → cond leap 366 365 ≡ 306 + (31 + february leap)
year_parts true = refl
year_parts false = refl

pub year_most : (leap : Bool) → cond leap 366 365 ≤ 366
year_most true = omega arith
year_most false = omega arith
