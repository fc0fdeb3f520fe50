-- The years: the days before one, and the year of a day by two quotients.
use Prim.Native.Nat.{ℕ, zero, suc, ◌+◌, ◌*◌, ◌-◌, ◌/◌, ◌%◌, ◌≤◌, ◌<◌}
use mathlib.Core.Path.{◌≡◌, refl, sym, ap, ◌∙◌, subst}
use mathlib.Core.Bool.{Bool, true, false, cond}
use native.Mathlib.Nat.{add-suc, add-zero, sub-zero, zero-add}
use native.Mathlib.Omega.{arith}
use lib.Dec.{eqb, ltb}
use borrow.Author.Tests.{eqb-true, eqb-false, ltb-true, ltb-false, lt-ltb, le-ltb}
use Rattle.calendar.specs.Calendar.{is_leap, year_days, year_from}
use Rattle.calendar.specs.InnerDays.{FromMarch}
use Rattle.calendar.specs.Days.{days_to}

-- ---- by a formula, the days of the years 1 to z: a quotient as z grows by one

abbrev closed : ℕ → ℕ
closed z = 365 * z + z / 4 + z / 400 - z / 100

up_4 : (z : ℕ) → suc z % 4 ≡ 0 → suc z / 4 ≡ suc (z / 4)
up_4 z h = omega arith

stay_4 : (z : ℕ) → (suc z % 4 ≡ 0 → ⊥) → suc z / 4 ≡ z / 4
stay_4 z h = omega arith

up_100 : (z : ℕ) → suc z % 100 ≡ 0 → suc z / 100 ≡ suc (z / 100)
up_100 z h = omega arith

stay_100 : (z : ℕ) → (suc z % 100 ≡ 0 → ⊥) → suc z / 100 ≡ z / 100
stay_100 z h = omega arith

up_400 : (z : ℕ) → suc z % 400 ≡ 0 → suc z / 400 ≡ suc (z / 400)
up_400 z h = omega arith

stay_400 : (z : ℕ) → (suc z % 400 ≡ 0 → ⊥) → suc z / 400 ≡ z / 400
stay_400 z h = omega arith

by_400 : (y : ℕ) → y % 400 ≡ 0 → y % 100 ≡ 0
by_400 y h = omega arith

by_100 : (y : ℕ) → y % 100 ≡ 0 → y % 4 ≡ 0
by_100 y h = omega arith

below : (z : ℕ) → z / 100 ≤ z
below z = omega arith

-- by the three tests of a leap year
longer : (z : ℕ) (a b c : Bool) → eqb (suc z % 4) 0 ≡ a → eqb (suc z % 100) 0 ≡ b → eqb (suc z % 400) 0 ≡ c → closed (suc z) ≡ closed z + year_days (suc z)
unfolding is_leap
longer z false b c e f g =
    let n = eqb-false (suc z % 4) 0 e in
    let m : suc z % 100 ≡ 0 → ⊥ = λ h. n (by_100 (suc z) h) in
    let l = below z in
    rw (e, stay_4 z n, stay_100 z m, stay_400 z (λ h. m (by_400 (suc z) h))) (omega arith)
longer z true false c e f g =
    let m = eqb-false (suc z % 100) 0 f in
    let l = below z in
    rw (e, f, up_4 z (eqb-true (suc z % 4) 0 e), stay_100 z m, stay_400 z (λ h. m (by_400 (suc z) h))) (omega arith)
longer z true true false e f g =
    let l = below z in
    rw (e, f, g, up_4 z (eqb-true (suc z % 4) 0 e), up_100 z (eqb-true (suc z % 100) 0 f), stay_400 z (eqb-false (suc z % 400) 0 g)) (omega arith)
longer z true true true e f g =
    let l = below z in
    rw (e, f, g, up_4 z (eqb-true (suc z % 4) 0 e), up_100 z (eqb-true (suc z % 100) 0 f), up_400 z (eqb-true (suc z % 400) 0 g)) (omega arith)

days_closed : (z : ℕ) → days_to z ≡ closed z
days_closed zero = refl
days_closed (suc z) = ap (λ (n : ℕ). n + year_days (suc z)) (days_closed z) ∙ sym (longer z _ _ _ refl refl refl)

-- ---- by centuries

by_centuries : (c y : ℕ) → y < 100 → closed (c * 100 + y) ≡ 36524 * c + c / 4 + (365 * y + y / 4)
by_centuries c y h =
    let a : (c * 100 + y) / 4 ≡ 25 * c + y / 4 = omega arith in
    let b : (c * 100 + y) / 100 ≡ c = omega arith in
    let d : (c * 100 + y) / 400 ≡ c / 4 = omega arith in
    rw (a, b, d) (omega arith)

-- ---- the year of day n: its century and the day of that, then the year of that century and the day of that

abbrev century : ℕ → ℕ
century n = (n * 4 + 3) / 146097

abbrev century_day : ℕ → ℕ
century_day n = (n * 4 + 3) % 146097 / 4

abbrev year : ℕ → ℕ
year k = (k * 4 + 3) / 1461

abbrev year_day : ℕ → ℕ
year_day k = (k * 4 + 3) % 1461 / 4

-- the years before that of day n
abbrev pub years : ℕ → ℕ
years n = century n * 100 + year (century_day n)

whole_century : (n : ℕ) → 36524 * century n + century n / 4 + century_day n ≡ n
whole_century n = omega arith

whole_year : (k : ℕ) → 365 * year k + year k / 4 + year_day k ≡ k
whole_year k = omega arith

-- the last of four is a day longer
last_of_4 : (w q r : ℕ) → r < 4 * w + 1 → q % 4 + r % 4 ≡ 3 → (t : Bool) → eqb (suc q % 4) 0 ≡ t → q / 4 + r / 4 < w + suc q / 4
last_of_4 w q r h s true e = rw (up_4 q (eqb-true (suc q % 4) 0 e)) (omega arith)
last_of_4 w q r h s false e = let n = eqb-false (suc q % 4) 0 e in rw (stay_4 q n) (omega arith)

last_century : (n : ℕ) → century n / 4 + century_day n < 36524 + suc (century n) / 4
last_century n =
    let s : century n % 4 + (n * 4 + 3) % 146097 % 4 ≡ 3 = omega arith in
    last_of_4 36524 (century n) ((n * 4 + 3) % 146097) (omega arith) s _ refl

last_year : (k : ℕ) → year k / 4 + year_day k < 365 + suc (year k) / 4
last_year k =
    let s : year k % 4 + (k * 4 + 3) % 1461 % 4 ≡ 3 = omega arith in
    last_of_4 365 (year k) ((k * 4 + 3) % 1461) (omega arith) s _ refl

few : (n : ℕ) → year (century_day n) < 100
few n = omega arith

-- day n lies in the year after those
into : (n : ℕ) → closed (years n) + year_day (century_day n) ≡ n
into n =
    let a = whole_century n in
    let b = whole_year (century_day n) in
    rw (by_centuries (century n) (year (century_day n)) (few n)) (omega arith)

within : (n : ℕ) (t : Bool) → ltb (year (century_day n)) 99 ≡ t → n < closed (suc (years n))
within n true e =
    let h = ltb-true (year (century_day n)) 99 e in
    let a = whole_century n in
    let b = whole_year (century_day n) in
    let l = last_year (century_day n) in
    rw (← add-suc, by_centuries (century n) (suc (year (century_day n))) (omega arith)) (omega arith)
within n false e =
    let h = ltb-false (year (century_day n)) 99 e in
    let f = few n in
    let a = whole_century n in
    let l = last_century n in
    let z : suc (years n) ≡ suc (century n) * 100 + 0 = omega arith in
    rw (z, by_centuries (suc (century n)) 0 (omega arith)) (omega arith)

-- ---- the same by counting

pub year_least : (y : ℕ) → 365 ≤ year_days y
year_least y = at_least (is_leap y)
  where
    at_least : (t : Bool) → 365 ≤ cond t 366 365
    at_least true = omega arith
    at_least false = omega arith

-- the days of k years from y on
abbrev span : ℕ → ℕ → ℕ
span y zero = 0
span y (suc k) = year_days y + span (suc y) k

span-next : (y k : ℕ) → span y (suc k) ≡ span y k + year_days (y + k)
span-next y zero = rw (add-zero y) (omega arith)
span-next y (suc k) =
    let e : suc y + k ≡ y + suc k = omega arith in
    ap (λ (n : ℕ). year_days y + n) (span-next (suc y) k) ∙ rw e (omega arith)

span_days : (k : ℕ) → span 1 k ≡ days_to k
span_days zero = refl
span_days (suc k) = let e : 1 + k ≡ suc k = omega arith in span-next 1 k ∙ rw (e, span_days k)

years_least : (k : ℕ) → k ≤ days_to k
years_least zero = omega arith
years_least (suc k) = omega (arith, year_least (suc k), years_least k)

counted : (k f y n : ℕ) → k ≤ f → span y k ≤ n → n < span y k + year_days (y + k) → year_from f y n ≡ (y + k, n - span y k)
counted zero zero y n a b l = rw (add-zero, sub-zero)
counted zero (suc f) y n a b l =
    let h : n < year_days y = rw (zero-add, add-zero y) at l in
    rw (lt-ltb n (year_days y) h, add-zero, sub-zero)
counted (suc k) zero y n a b l = absurd (omega arith)
counted (suc k) (suc f) y n a b l =
    let e : y + suc k ≡ suc y + k = omega arith in
    let g : n < year_days y + span (suc y) k + year_days (suc y + k) = rw e at l in
    let h : year_days y ≤ n = omega arith in
    rw (le-ltb n (year_days y) h, e)
    (counted k f (suc y) (n - year_days y) (omega arith) (omega arith) (omega arith) ∙ ap (λ (r : ℕ). (suc y + k, r)) (omega arith))

-- the day r of the year after z years
pub year_at : (z r n : ℕ) → days_to z + r ≡ n → r < year_days (suc z) → year_from n 1 n ≡ (suc z, r)
year_at z r n e h =
    let s = span_days z in
    let o : 1 + z ≡ suc z = omega arith in
    let l = years_least z in
    counted z n 1 n (omega arith) (omega arith) (rw o (omega arith)) ∙ rw o (ap (λ (k : ℕ). (suc z, k)) (omega arith))

-- the year of day n by quotients is the one by counting
abbrev pub day : ℕ → ℕ
day n = year_day (century_day n)

pub days_before : (n : ℕ) → days_to (years n) + day n ≡ n
days_before n = rw (days_closed (years n)) (into n)

less : (a b c n : ℕ) → a + b ≡ n → n < a + c → b < c
less a b c n e h = omega arith

pub day_in_year : (n : ℕ) → day n < year_days (suc (years n))
day_in_year n =
    let u : n < days_to (suc (years n)) = subst (λ (k : ℕ). n < k) (sym (days_closed (suc (years n)))) (within n _ refl) in
    less (days_to (years n)) (day n) (year_days (suc (years n))) n (days_before n) u

pub year_of : (n : ℕ) → year_from n 1 n ≡ (suc (years n), day n)
year_of n = year_at (years n) (day n) n (days_before n) (day_in_year n)

-- 9999 years have 3,652,059 days
pub years_most : (n : ℕ) → n < 3652059 → years n < 9999
years_most n h = omega arith

-- ---- from March on

pub from_march : (n : ℕ) → n < 3652059 → FromMarch n (years (n + 306)) (day (n + 306))
from_march n h = record { back = days_before (n + 306); inside = day_in_year (n + 306); early = omega arith }
