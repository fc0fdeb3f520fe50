-- The date of a day, by the year and the month of it: the days before it, and its bounds.
use Prim.Native.Nat.{ℕ, zero, suc, ◌+◌, ◌*◌, ◌-◌, ◌/◌, ◌%◌, ◌≤◌, ◌<◌}
use mathlib.Core.Path.{◌≡◌, sym, ap, ◌∙◌}
use native.Mathlib.Omega.{arith}
use lib.ListN.{get_or}
use Rattle.calendar.specs.declared.Date.{Date}
use Rattle.calendar.specs.Calendar.{is_leap, february, month_days, month_from, year_from, date_of}
use Rattle.calendar.specs.InnerDays.{march_days, FromMarch}
use Rattle.calendar.specs.Days.{days_to, day_of, CountsBack}
use Rattle.calendar.proofs.Years.{years, day, year_at, year_of, days_before, day_in_year, years_most}
use Rattle.calendar.proofs.Months.{InMonth, in_month_lem, year_sum, month_most, year_most, month_of_lem, later_months, first_months, year_parts}

-- the month of day n, and the day in it from 0
abbrev pub month_of : ℕ → ℕ × ℕ
month_of n = month_from (month_days (is_leap (suc (years n)))) 1 (day n)

abbrev pub date_in : ℕ → ℕ × ℕ → Date
date_in y p = record { year = y; month = p.0; day = suc p.1 }

pub date_of_lem : (n : ℕ) → date_of n ≡ date_in (suc (years n)) (month_of n)
unfolding date_of
date_of_lem n = rw (year_of n)

pub found : (n : ℕ) → InMonth (month_days (is_leap (suc (years n)))) 1 (day n) (month_of n)
found n = in_month_lem (month_days (is_leap (suc (years n)))) 1 (day n) (rw year_sum (day_in_year n))

-- the days before the date of day n are n
module _ (z n d : ℕ) (p : ℕ × ℕ) (i : InMonth (month_days (is_leap (suc z))) 1 d p) (e : days_to z + d ≡ n) where
  back : day_of (date_in (suc z) p) ≡ n
  back =
      let a : suc z - 1 ≡ z = omega arith in
      let b : p.0 - 1 ≡ i.place = omega (arith, i.month) in
      rw (a, b) (omega (arith, i.sums))

pub date_day : CountsBack
date_day n = rw (date_of_lem n) (back (years n) n (day n) (month_of n) (found n) (days_before n))

-- ---- its bounds

pub date_year_least : (n : ℕ) → 1 ≤ (date_of n).year
date_year_least n = rw (date_of_lem n) (omega arith)

-- the year 9999 ends before day 3,652,059
pub date_year_most : (n : ℕ) → n < 3652059 → (date_of n).year ≤ 9999
date_year_most n h = rw (date_of_lem n) (years_most n h)

pub date_month : (n : ℕ) → (1 ≤ (date_of n).month) × ((date_of n).month ≤ 12)
unfolding month_days
date_month n = let i = found n in rw (date_of_lem n) (omega (arith, i.month, i.inside))

-- the day is one of its month's
pub date_in_month : (n : ℕ) → (1 ≤ (date_of n).day) × ((date_of n).day ≤ get_or (month_days (is_leap (date_of n).year)) ((date_of n).month - 1) 0)
date_in_month n =
    let i = found n in
    let e : (month_of n).0 - 1 ≡ i.place = omega (arith, i.month) in
    rw (date_of_lem n) (omega arith, rw e i.short)

pub date_day_most : (n : ℕ) → (date_of n).day < 32
unfolding month_days
date_day_most n =
    let i = found n in
    rw (date_of_lem n) (omega (arith, i.short, month_most (is_leap (suc (years n))) i.place i.inside))

-- ---- as the code finds it: day n is day d from March of year y on, and that is day r of month m

pub parts : (n y d m r : ℕ) → year_from n 1 n ≡ (y, d) → month_from (month_days (is_leap y)) 1 d ≡ (m, r) → record { year = y; month = m; day = suc r } ≡ date_of n
unfolding date_of
parts n y d m r e f = rw (e, f)

pub year_short : {n y d : ℕ} → FromMarch n y d → d < 366
year_short {y = y} e = omega (arith, e.inside, year_most (is_leap (suc y)))

module _ {n y d m r : ℕ} (e : FromMarch n y d) (f : (m, r) ≡ month_from march_days 3 d) where
  the_month : m ≡ (d * 2141 + 197913) / 65536
  the_month = ap (λ (p : ℕ × ℕ). p.0) (f ∙ sym (month_of_lem d (year_short e)))

  the_day : r ≡ (d * 2141 + 197913) % 65536 / 2141
  the_day = ap (λ (p : ℕ × ℕ). p.1) (f ∙ sym (month_of_lem d (year_short e)))

  pub month_late : 306 ≤ d → 12 ≤ m
  month_late h = omega (arith, the_month)

  pub day_short : r < 32
  day_short = omega (arith, the_day)

  pub next_year : 306 ≤ d → record { year = suc y; month = m - 12; day = suc r } ≡ date_of n
  next_year h =
      let k : d - 306 + 306 ≡ d = omega arith in
      let g : days_to y + (d - 306) ≡ n = omega (arith, e.back) in
      let l : d - 306 < 31 + february (is_leap (suc y)) = omega (arith, e.inside, year_parts (is_leap (suc y))) in
      parts n (suc y) (d - 306) (m - 12) r (year_at y (d - 306) n g (omega (arith, e.inside))) (first_months (is_leap (suc y)) (d - 306) l ∙ rw (k, ← f))

pub this_year : {n y d m r : ℕ} → FromMarch n y d → (m, r) ≡ month_from march_days 3 d → d < 306 → record { year = y; month = m; day = suc r } ≡ date_of n
this_year {n = n} {y = zero} {d = d} {m = m} {r = r} e f h = absurd (omega (arith, e.back))
this_year {n = n} {y = suc y} {d = d} {m = m} {r = r} e f h =
    let leap = is_leap (suc y) in
    let g : days_to y + (d + (31 + february leap)) ≡ n = omega (arith, e.back, year_parts leap) in
    parts n (suc y) (d + (31 + february leap)) m r (year_at y (d + (31 + february leap)) n g (omega (arith, year_parts leap))) (later_months leap d h ∙ sym f)
