-- FORMAT 5.1. 01, "Stored forms": the ranges of Date, Time and Timestamp.
use Rattle.std.specs.Prelude.{Bool, false, cond, ℤ, pos, negsuc}
use Rattle.std.specs.Int.Signed.{lt_z, le_z}

abbrev pub between : ℤ → ℤ → ℤ → Bool
between low high z = cond (lt_z z low) false (le_z z high)

-- "Date: days from 1970-01-01, −719,162 to 2,932,896"; `negsuc n` is -(n + 1)
abbrev pub is_date : ℤ → Bool
is_date z = between (negsuc 719161) (pos 2932896) z

-- "A Time value to be written lies in 0 to 86,399,999,999"
abbrev pub is_time : ℤ → Bool
is_time z = between (pos 0) (pos 86399999999) z

-- "Timestamp: microseconds, −62,135,596,800,000,000 to 253,402,300,799,999,999"
abbrev pub is_timestamp : ℤ → Bool
is_timestamp z = between (negsuc 62135596799999999) (pos 253402300799999999) z
