-- For the proofs: what a stored Timestamp is as a moment.
use Rattle.std.specs.Prelude.{cond, ℤ, None, Option, Some, ℕ}
use Rattle.temporal.specs.Ranges.{is_timestamp}
use Rattle.calendar.specs.Moment.{since_year_one}

abbrev pub moment_of : ℤ → Option ℕ
moment_of z = cond (is_timestamp z) (Some (since_year_one z)) None
