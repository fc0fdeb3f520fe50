-- FORMAT 4.1, 5.2. 01, "What must change shape": "`i128`: a signed upper and an unsigned lower half". The number is
-- high * 2^64 + low.
use Rattle.std.specs.Prelude.{ℕ, zero, suc, ◌+◌, ◌*◌, ◌-◌, ◌/◌, ◌%◌, ◌^◌, Bool, true, false, ℤ, pos, negsuc}
use Rattle.value.specs.declared.NumericValue.{NumericValue}

-- its sign and its magnitude; `negsuc n` is -(n + 1)
abbrev pub is_negative : ℤ → Bool
is_negative (pos h) = false
is_negative (negsuc h) = true

abbrev pub magnitude : ℤ → ℕ → ℕ
magnitude (pos h) low = h * 2 ^ 64 + low
magnitude (negsuc h) low = suc h * 2 ^ 64 - low

-- the number of a sign and a magnitude
abbrev pub numeric_of : Bool → ℕ → ℕ → NumericValue
numeric_of false m s = record { high = pos (m / 2 ^ 64); low = m % 2 ^ 64; scale = s }
numeric_of true zero s = record { high = pos 0; low = 0; scale = s }
numeric_of true (suc m) s = record { high = negsuc (m / 2 ^ 64); low = 2 ^ 64 - 1 - m % 2 ^ 64; scale = s }
