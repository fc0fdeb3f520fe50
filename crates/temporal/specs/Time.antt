-- FORMAT 5.2. 01, "Stored forms": "A stored Time is a signed count; divide towards zero by 1,000,000, refuse a negative
-- remainder, take the quotient modulo 2^32, refuse 86,400 or more."
use Rattle.std.specs.Prelude.{ℕ, ◌+◌, ◌*◌, ◌-◌, ◌%◌, ◌^◌, cond, leb, ℤ, pos, negsuc, nat_abs, None, Option, Some}
use Rattle.std.specs.Int.Signed.{quot_z, rem_z, lt_z}

-- z modulo m, from 0 to m - 1
abbrev pub mod_z : ℤ → ℕ → ℕ
mod_z (pos n) m = n % m
mod_z (negsuc n) m = m - 1 - n % m

abbrev pub time_of : ℤ → Option ℤ
time_of z = split (rem_z z (pos 1000000)) (mod_z (quot_z z (pos 1000000)) (2 ^ 32))
  where
    split : ℤ → ℕ → Option ℤ
    split rest seconds =
        cond (lt_z rest (pos 0)) None
        (cond (leb 86400 seconds) None (Some (pos (seconds * 1000000 + nat_abs rest))))
