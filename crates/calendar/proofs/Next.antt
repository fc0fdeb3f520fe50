-- Day 0 is 0001-01-01, and the date of the next day is the next date: in the month, in the next month or in the next year.
use Prim.Native.Nat.{ℕ, zero, suc, ◌+◌, ◌-◌, ◌≤◌, ◌<◌}
use mathlib.Core.Path.{◌≡◌, refl, sym, ap, ◌∙◌}
use mathlib.Core.Bool.{Bool, true, false}
use mathlib.Core.List.{List, [], ◌∷◌}
use native.Mathlib.Nat.{add-zero}
use native.Mathlib.Omega.{arith}
use lib.Dec.{ltb}
use lib.ListN.{length, take, get_or}
use borrow.Author.Tests.{ltb-true, ltb-false, lt-ltb, le-ltb}
use Rattle.calendar.specs.Calendar.{is_leap, year_days, month_days, month_from, date_of}
use Rattle.calendar.specs.Days.{sum, days_to, next_date, NextDay}
use Rattle.calendar.proofs.Years.{years, day, year_least, year_at, days_before}
use Rattle.calendar.proofs.Months.{InMonth, year_sum}
use Rattle.calendar.proofs.Dates.{date_in, month_of, found, date_of_lem, parts}

-- ---- the day r of the month after k months, by counting

month_at : (ds : List ℕ) (m k r n : ℕ) → k < length ds → r < get_or ds k 0 → sum (take k ds) + r ≡ n → month_from ds m n ≡ (m + k, r)
month_at [] m k r n l h e = absurd (omega arith)
month_at (d ∷ ds) m zero r n l h e =
    let f : n < d = omega arith in
    rw (lt-ltb n d f, add-zero) (ap (λ (k : ℕ). (m, k)) (omega arith))
month_at (d ∷ ds) m (suc k) r n l h e =
    let f : d ≤ n = omega arith in
    let g : suc m + k ≡ m + suc k = omega arith in
    rw (le-ltb n d f, ← g) (month_at ds (suc m) k r (n - d) (omega arith) h (omega arith))

-- sums of months
sum-next : (ds : List ℕ) (k : ℕ) → k < length ds → sum (take (suc k) ds) ≡ sum (take k ds) + get_or ds k 0
sum-next [] k l = absurd (omega arith)
sum-next (d ∷ ds) zero l = omega arith
sum-next (d ∷ ds) (suc k) l = omega (arith, sum-next ds k (omega arith))

sum-within : (ds : List ℕ) (k : ℕ) → sum (take k ds) ≤ sum ds
sum-within ds zero = omega arith
sum-within [] (suc k) = omega arith
sum-within (d ∷ ds) (suc k) = omega (arith, sum-within ds k)

-- no month is empty
abbrev Long : List ℕ → Type 0
Long [] = Unit {0}
Long (d ∷ ds) = (1 ≤ d) × Long ds

long_at : (ds : List ℕ) (k : ℕ) → k < length ds → Long ds → 1 ≤ get_or ds k 0
long_at [] k l a = absurd (omega arith)
long_at (d ∷ ds) zero l a = a.0
long_at (d ∷ ds) (suc k) l a = long_at ds k (omega arith) a.1

months_long : (leap : Bool) → Long (month_days leap)
unfolding month_days
months_long true = omega arith
months_long false = omega arith

twelve : (leap : Bool) → length (month_days leap) ≡ 12
unfolding month_days
twelve leap = refl

all_months : (leap : Bool) → take 12 (month_days leap) ≡ month_days leap
unfolding month_days
all_months leap = refl

-- ---- day n is day r of the year after z years, and that is day p .1 of month p .0

module _ (n z r : ℕ) (p : ℕ × ℕ) (e : days_to z + r ≡ n) (i : InMonth (month_days (is_leap (suc z))) 1 r p) where
  abbrev months : List ℕ
  months = month_days (is_leap (suc z))

  abbrev k : ℕ
  k = i.place

  whole : sum months ≡ year_days (suc z)
  whole = year_sum (is_leap (suc z))

  same_month : suc p.1 < get_or months k 0 → date_of (suc n) ≡ record { year = suc z; month = p.0; day = suc (suc p.1) }
  same_month h =
      let s = sum-next months k i.inside in
      let w = sum-within months (suc k) in
      let l : suc r < year_days (suc z) = omega (arith, i.sums, whole) in
      sym
      (parts (suc n) (suc z) (suc r) p.0 (suc p.1) (year_at z (suc r) (suc n) (omega arith) l)
      (month_at months 1 k (suc p.1) (suc r) i.inside h (omega (arith, i.sums)) ∙ ap (λ (m : ℕ). (m, suc p.1)) (sym i.month)))

  next_month : get_or months k 0 ≤ suc p.1 → p.0 < 12 → date_of (suc n) ≡ record { year = suc z; month = suc p.0; day = 1 }
  next_month h g =
      let f : suc k < length months = rw (twelve (is_leap (suc z))) (omega (arith, i.month)) in
      let s = sum-next months k i.inside in
      let t = sum-next months (suc k) f in
      let w = sum-within months (suc (suc k)) in
      let o = long_at months (suc k) f (months_long (is_leap (suc z))) in
      let l : suc r < year_days (suc z) = omega (arith, i.sums, i.short, whole) in
      let m : 1 + suc k ≡ suc p.0 = omega (arith, i.month) in
      sym
      (parts (suc n) (suc z) (suc r) (suc p.0) 0 (year_at z (suc r) (suc n) (omega arith) l)
      (month_at months 1 (suc k) 0 (suc r) f o (omega (arith, i.sums, i.short)) ∙ ap (λ (j : ℕ). (j, 0)) m))

  next_year : get_or months k 0 ≤ suc p.1 → 12 ≤ p.0 → date_of (suc n) ≡ record { year = suc (suc z); month = 1; day = 1 }
  next_year h g =
      let f : k < 12 = rw (twelve (is_leap (suc z))) at i.inside in
      let c : suc k ≡ 12 = omega (arith, i.month) in
      let s : sum months ≡ sum (take k months) + get_or months k 0 = ap sum (sym (all_months (is_leap (suc z)))) ∙ ap (λ (j : ℕ). sum (take j months)) (sym c) ∙ sum-next months k i.inside in
      let later : List ℕ = month_days (is_leap (suc (suc z))) in
      let o : 0 < length later = rw (twelve (is_leap (suc (suc z)))) (omega arith) in
      sym
      (parts (suc n) (suc (suc z)) 0 1 0 (year_at (suc z) 0 (suc n) (omega (arith, i.sums, i.short, whole)) (omega (arith, year_least (suc (suc z)))))
      (month_at later 1 0 0 0 o (long_at later 0 o (months_long (is_leap (suc (suc z))))) refl))

  place_is : p.0 - 1 ≡ k
  place_is = omega (arith, i.month)

  chosen : (t u : Bool) → ltb (suc p.1) (get_or months (p.0 - 1) 0) ≡ t → ltb p.0 12 ≡ u → date_of (suc n) ≡ next_date (date_in (suc z) p)
  unfolding next_date
  chosen true u a b = rw a (same_month (rw place_is at (ltb-true (suc p.1) (get_or months (p.0 - 1) 0) a)))
  chosen false true a b =
      rw (a, b) (next_month (rw place_is at (ltb-false (suc p.1) (get_or months (p.0 - 1) 0) a)) (ltb-true p.0 12 b))
  chosen false false a b =
      rw (a, b) (next_year (rw place_is at (ltb-false (suc p.1) (get_or months (p.0 - 1) 0) a)) (ltb-false p.0 12 b))

pub next_day : NextDay
next_day n = rw (date_of_lem n) (chosen n (years n) (day n) (month_of n) (days_before n) (found n) _ _ refl refl)

pub date_first : date_of 0 ≡ record { year = 1; month = 1; day = 1 }
unfolding date_of is_leap month_days
date_first = refl
