-- FORMAT 10.3. The Gregorian calendar, back to the year 1, by counting years and then months.
use Rattle.std.specs.Prelude.{ℕ, zero, suc, ◌-◌, ◌%◌, Bool, true, false, ◌&&◌, ◌||◌, not, cond, List, [], ◌∷◌, eqb, ltb}
use Rattle.calendar.specs.declared.Date.{Date}

-- every fourth year, of the full centuries every fourth
unfoldable pub is_leap : ℕ → Bool
is_leap y = eqb (y % 4) 0 && (not (eqb (y % 100) 0) || eqb (y % 400) 0)

abbrev pub year_days : ℕ → ℕ
year_days y = cond (is_leap y) 366 365

abbrev pub february : Bool → ℕ
february true = 29
february false = 28

-- the lengths of the months of a year that is leap or not
unfoldable pub month_days : Bool → List ℕ
month_days leap = 31 ∷ february leap ∷ 31 ∷ 30 ∷ 31 ∷ 30 ∷ 31 ∷ 31 ∷ 30 ∷ 31 ∷ 30 ∷ 31 ∷ []

-- the year that day n lies in, counted from the first day of year y as day 0, and the day in that year; over at most
-- k years
abbrev pub year_from : ℕ → ℕ → ℕ → ℕ × ℕ
year_from zero y n = (y, n)
year_from (suc k) y n =
    let later = year_from k (suc y) (n - year_days y) in
    cond (ltb n (year_days y)) (y, n) later

-- so for months of these lengths, the first of them being month m
abbrev pub month_from : List ℕ → ℕ → ℕ → ℕ × ℕ
month_from [] m n = (m, n)
month_from (d ∷ ds) m n = cond (ltb n d) (m, n) (month_from ds (suc m) (n - d))

-- the date of day n, 0001-01-01 being day 0; n days are at most n years
unfoldable pub date_of : ℕ → Date
date_of n = in_year (year_from n 1 n)
  where
    in_month : ℕ → ℕ × ℕ → Date
    in_month y (m, d) = record { year = y; month = m; day = suc d }

    in_year : ℕ × ℕ → Date
    in_year (y, d) = in_month y (month_from (month_days (is_leap y)) 1 d)
