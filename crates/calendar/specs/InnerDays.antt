-- For the proofs: years from March on, as the code counts them.
use Rattle.std.specs.Prelude.{ℕ, suc, ◌+◌, ◌≤◌, ◌<◌, ◌≡◌, List, [], ◌∷◌}
use Rattle.calendar.specs.Calendar.{year_days}
use Rattle.calendar.specs.Days.{days_to}

-- the months from March on, with 29 days in February
unfoldable pub march_days : List ℕ
march_days = 31 ∷ 30 ∷ 31 ∷ 30 ∷ 31 ∷ 31 ∷ 30 ∷ 31 ∷ 30 ∷ 31 ∷ 31 ∷ 29 ∷ []

-- day n is day d from the first of March of year y; day 0 is 306 days after such a day
pub record FromMarch (n y d : ℕ) : Type 0 where
  pub back : days_to y + d ≡ n + 306
  pub inside : d < year_days (suc y)
  pub early : y ≤ 9999
