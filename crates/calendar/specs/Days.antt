-- FORMAT 10.3. The same calendar by sums: the days before a date, of the years and the months before it; and the date
-- after a date.
use Rattle.std.specs.Prelude.{ℕ, zero, suc, ◌+◌, ◌-◌, cond, List, [], ◌∷◌, ◌≡◌, ltb, take, get_or}
use Rattle.calendar.specs.declared.Date.{Date}
use Rattle.calendar.specs.Calendar.{is_leap, year_days, month_days, date_of}

-- the days of the years 1 to z
abbrev pub days_to : ℕ → ℕ
days_to zero = 0
days_to (suc z) = days_to z + year_days (suc z)

abbrev pub sum : List ℕ → ℕ
sum [] = 0
sum (d ∷ ds) = d + sum ds

-- the days before a date
abbrev pub day_of : Date → ℕ
day_of d = days_to (d.year - 1) + sum (take (d.month - 1) (month_days (is_leap d.year))) + (d.day - 1)

-- the date after a date
unfoldable pub next_date : Date → Date
next_date d =
    cond (ltb d.day (get_or (month_days (is_leap d.year)) (d.month - 1) 0))
    (record { year = d.year; month = d.month; day = suc d.day })
    (cond (ltb d.month 12) (record { year = d.year; month = suc d.month; day = 1 })
    (record { year = suc d.year; month = 1; day = 1 }))

-- what is proved of the date of every day, 0001-01-01 being day 0
abbrev pub CountsBack : Type 0
CountsBack = (n : ℕ) → day_of (date_of n) ≡ n

abbrev pub NextDay : Type 0
NextDay = (n : ℕ) → date_of (suc n) ≡ next_date (date_of n)
