-- FORMAT 10.3. 02, "Printed list": "times as date, year in four digits, and time rounded down to the second": 19 bytes.
use Rattle.std.specs.Prelude.{ℕ, zero, suc, ◌+◌, ◌-◌, ◌/◌, ◌%◌, ◌^◌, List, [], ◌∷◌, ◌++◌, ℤ, pos, negsuc}
use Rattle.calendar.specs.declared.Date.{Date}
use Rattle.calendar.specs.Calendar.{date_of}

-- the last w decimal digits of n, the high digit first; 48 is "0"
abbrev pub ascii_digits : ℕ → ℕ → List ℕ
ascii_digits zero n = []
ascii_digits (suc w) n = (48 + n / 10 ^ w % 10) ∷ ascii_digits w n

-- "2026-11-16": year, month and day; 45 is "-"
abbrev pub date_text : ℕ → ℕ → ℕ → List ℕ
date_text y m d = ascii_digits 4 y ++ (45 ∷ (ascii_digits 2 m ++ (45 ∷ ascii_digits 2 d)))

-- "17:05:09" of the seconds since midnight; 58 is ":"
abbrev pub time_text : ℕ → List ℕ
time_text s = ascii_digits 2 (s / 3600) ++ (58 ∷ (ascii_digits 2 (s / 60 % 60) ++ (58 ∷ ascii_digits 2 (s % 60))))

-- date and time, with a space between
abbrev pub together : Date → ℕ → List ℕ
together d s = date_text d.year d.month d.day ++ (32 ∷ time_text s)

-- of s seconds since 0001-01-01 00:00:00
unfoldable pub second_text : ℕ → List ℕ
second_text s = together (date_of (s / 86400)) (s % 86400)

-- of u microseconds since then, rounded down to the second
unfoldable pub moment_text : ℕ → List ℕ
moment_text u = second_text (u / 1000000)

-- a Timestamp's microseconds since 1970, counted from 0001-01-01 00:00:00; `negsuc n` is -(n + 1)
abbrev pub since_year_one : ℤ → ℕ
since_year_one (pos n) = n + 62135596800000000
since_year_one (negsuc n) = 62135596799999999 - n
