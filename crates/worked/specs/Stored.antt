-- 01, "Stored forms", in rows of one column: what a build stores of a value, and what a read gives of a slot. Outside a
-- type's range "a value gives 12; a stored Date or Timestamp outside its range gives 8".
use Rattle.error.specs.Result.{Result}
use Rattle.std.specs.Prelude.{ℕ, false, List, [], ◌∷◌, ◌++◌, take, Err, Ok}
use Rattle.error.specs.Refusal.{number_of, place_of}
use Rattle.row_build.specs.Build.{build_call}
use Rattle.row_decode.specs.Read.{read_call}
use Rattle.worked.specs.Cases.{Case}
use Rattle.worked.specs.Calls.{◌gives◌, hex, zeros, lent}

-- 0 and the bytes of the result, or number and place
abbrev pub result : Result ℕ → List ℕ → List ℕ
result (Ok n) out = 0 ∷ take n out
result (Err e) out = number_of e ∷ place_of e ∷ []

-- a slot's row
abbrev pub row : List ℕ → List ℕ
row slot = hex "01 00 00 80 00" ++ slot

abbrev pub write : List ℕ → List ℕ → List ℕ → List ℕ
write schema value area =
    let o = build_call false schema value area (lent 25) (7 ∷ []) in result o.0 o.1.0

abbrev pub read : List ℕ → List ℕ → List ℕ
read schema slot = let o = read_call schema (row slot) (0 ∷ []) (lent 18) (7 ∷ []) in result o.0 o.1.0

abbrev pub date : List ℕ
date = hex "0C"

abbrev pub time : List ℕ
time = hex "0D"

abbrev pub timestamp : List ℕ
timestamp = hex "0F"

unfoldable pub moments : List Case
moments =
    -- "Date: days from 1970-01-01, −719,162 to 2,932,896": both ends, and a day past each, written and read
    (write date (hex "0A C6 06 F5 FF") [] gives 0 ∷ row (hex "C6 06 F5 FF"))
    ∷ (write date (hex "0A C5 06 F5 FF") [] gives 12 ∷ 0 ∷ [])
    ∷ (write date (hex "0A A0 C0 2C 00") [] gives 0 ∷ row (hex "A0 C0 2C 00"))
    ∷ (write date (hex "0A A1 C0 2C 00") [] gives 12 ∷ 0 ∷ [])
    ∷ (read date (hex "C6 06 F5 FF") gives 0 ∷ hex "0A C6 06 F5 FF")
    ∷ (read date (hex "C5 06 F5 FF") gives 8 ∷ 0 ∷ [])
    -- "A Time value to be written lies in 0 to 86,399,999,999"; 4,294,967,296,000,000 would read as 0
    ∷ (write time (hex "0B 00 00 00 00 00 00 00 00") [] gives 0 ∷ row (zeros 8))
    ∷ (write time (hex "0B FF FF FF FF FF FF FF FF") [] gives 12 ∷ 0 ∷ [])
    ∷ (write time (hex "0B FF 5F D7 1D 14 00 00 00") [] gives 0 ∷ row (hex "FF 5F D7 1D 14 00 00 00"))
    ∷ (write time (hex "0B 00 60 D7 1D 14 00 00 00") [] gives 12 ∷ 0 ∷ [])
    ∷ (write time (hex "0B 00 00 00 00 40 42 0F 00") [] gives 12 ∷ 0 ∷ [])
    -- "A stored Time is a signed count; divide towards zero by 1,000,000, [..] take the quotient modulo 2^32":
    -- −4,294,967,296,000,000 is −2^32 seconds, which is 0; −4,294,880,897,000,000 is 86,399 seconds
    ∷ (read time (hex "00 00 00 00 C0 BD F0 FF") gives 0 ∷ hex "0B 00 00 00 00 00 00 00 00")
    ∷ (read time (hex "C0 1D C8 1D D4 BD F0 FF") gives 0 ∷ hex "0B C0 1D C8 1D 14 00 00 00")
    -- "refuse 86,400 or more": −4,294,880,896,000,000 is 86,400 seconds, −1,000,000 is 2^32 − 1 of them
    ∷ (read time (hex "00 60 D7 1D D4 BD F0 FF") gives 8 ∷ 0 ∷ [])
    ∷ (read time (hex "C0 BD F0 FF FF FF FF FF") gives 8 ∷ 0 ∷ [])
    -- "refuse a negative remainder": a microsecond before −2^32 seconds
    ∷ (read time (hex "FF FF FF FF BF BD F0 FF") gives 8 ∷ 0 ∷ [])
    -- "Timestamp: microseconds, −62,135,596,800,000,000 to 253,402,300,799,999,999"
    ∷ (write timestamp (hex "0D 00 40 D4 00 01 40 23 FF") [] gives 0 ∷ row (hex "00 40 D4 00 01 40 23 FF"))
    ∷ (write timestamp (hex "0D FF 3F D4 00 01 40 23 FF") [] gives 12 ∷ 0 ∷ [])
    ∷ (write timestamp (hex "0D FF 5F 73 CC 0C 44 84 03") [] gives 0 ∷ row (hex "FF 5F 73 CC 0C 44 84 03"))
    ∷ (write timestamp (hex "0D 00 60 73 CC 0C 44 84 03") [] gives 12 ∷ 0 ∷ [])
    ∷ (read timestamp (hex "00 40 D4 00 01 40 23 FF") gives 0 ∷ hex "0D 00 40 D4 00 01 40 23 FF")
    ∷ (read timestamp (hex "FF 3F D4 00 01 40 23 FF") gives 8 ∷ 0 ∷ [])
    ∷ (read timestamp (hex "FF 5F 73 CC 0C 44 84 03") gives 0 ∷ hex "0D FF 5F 73 CC 0C 44 84 03")
    ∷ (read timestamp (hex "00 60 73 CC 0C 44 84 03") gives 8 ∷ 0 ∷ [])
    ∷ []

-- Numeric(4,2), Decimal(32,0)
abbrev pub numeric : List ℕ
numeric = hex "06 04 02"

abbrev pub decimal : List ℕ
decimal = hex "07 20 00"

unfoldable pub values : List Case
values =
    -- "digits of the unscaled number, one a nibble, a zero nibble in front when precision is even, then C or D; D only
    -- below zero; the scale must equal the type's": −12.34, 99.99, 0; 100.00 and −100.00; a scale of 1
    (write numeric (hex "06 2E FB FF FF FF FF FF FF FF FF FF FF FF FF FF FF 02") [] gives 0 ∷ row (hex "01 23 4D"))
    ∷ (write numeric (hex "06 0F 27 00 00 00 00 00 00 00 00 00 00 00 00 00 00 02") [] gives 0 ∷ row (hex "09 99 9C"))
    ∷ (write numeric (hex "06" ++ (zeros 16 ++ hex "02")) [] gives 0 ∷ row (hex "00 00 0C"))
    ∷ (write numeric (hex "06 10 27 00 00 00 00 00 00 00 00 00 00 00 00 00 00 02") [] gives 12 ∷ 0 ∷ [])
    ∷ (write numeric (hex "06 F0 D8 FF FF FF FF FF FF FF FF FF FF FF FF FF FF 02") [] gives 12 ∷ 0 ∷ [])
    ∷ (write numeric (hex "06" ++ (zeros 16 ++ hex "01")) [] gives 12 ∷ 0 ∷ [])
    -- the least 128-bit number has 39 digits
    ∷ (write (hex "06 26 00") (hex "06" ++ (zeros 15 ++ hex "80 00")) [] gives 12 ∷ 0 ∷ [])
    -- read back, with a nibble in front that is not looked at; a digit of 10; a sign that is none
    ∷ (read numeric (hex "F1 23 4D") gives 0 ∷ hex "06 2E FB FF FF FF FF FF FF FF FF FF FF FF FF FF FF 02")
    ∷ (read numeric (hex "01 2A 4D") gives 8 ∷ 0 ∷ [])
    ∷ (read numeric (hex "01 23 4B") gives 8 ∷ 0 ∷ [])
    -- "where the digits or the sign fail, the slot is read as 16 bytes of two's complement and a scale byte": −1, 5
    ∷ (read decimal (hex "FF FF FF FF FF FF FF FF FF FF FF FF FF FF FF FF 05")
    gives 0 ∷ hex "06 FF FF FF FF FF FF FF FF FF FF FF FF FF FF FF FF 05")
    ∷ (read decimal (zeros 16 ++ hex "1C") gives 0 ∷ hex "06 01" ++ zeros 16)
    -- "for a Bool body above 1, a value gives 12"; "Bool is true for any non-zero byte"
    ∷ (write (hex "08") (hex "07 01") [] gives 0 ∷ row (hex "01"))
    ∷ (write (hex "08") (hex "07 02") [] gives 12 ∷ 0 ∷ [])
    ∷ (read (hex "08") (hex "02") gives 0 ∷ hex "07 01")
    -- "Char: blanks up to n"; "RFC 3629 decides which text is valid, on writing too"
    ∷ (write (hex "09 03 00") (hex "08 00 00 01 00") (hex "41") gives 0 ∷ row (hex "41 20 20"))
    ∷ (write (hex "0A 03 00") (hex "08 00 00 04 00") (hex "41 42 43 44") gives 12 ∷ 0 ∷ [])
    ∷ (write (hex "09 03 00") (hex "08 00 00 01 00") (hex "FF") gives 12 ∷ 0 ∷ [])
    ∷ (read (hex "0A 03 00") (hex "41 20 20") gives 0 ∷ hex "08 05 00 03 00")
    ∷ (read (hex "09 03 00") (hex "41 20 FF") gives 8 ∷ 0 ∷ [])
    -- "Bit: high bit first, exactly the bytes that n bits fill; spare bits ignored when read, zero when written"
    ∷ (write (hex "0E 0C 00") (hex "0C 00 00 02 00") (hex "F1 FF") gives 0 ∷ row (hex "F1 F0"))
    ∷ (write (hex "0E 0C 00") (hex "0C 00 00 01 00") (hex "F1 FF") gives 12 ∷ 0 ∷ [])
    ∷ (write (hex "0E 0C 00") (hex "0C 00 00 03 00") (hex "F1 FF FF") gives 12 ∷ 0 ∷ [])
    ∷ (read (hex "0E 0C 00") (hex "F1 FF") gives 0 ∷ hex "0C 05 00 02 00")
    -- "Integers and floats: their bits": −2, and bits of a NaN
    ∷ (write (hex "01") (hex "01 FE FF") [] gives 0 ∷ row (hex "FE FF"))
    ∷ (read (hex "01") (hex "FE FF") gives 0 ∷ hex "01 FE FF")
    ∷ (read (hex "02") (hex "FE FF FF FF") gives 0 ∷ hex "02 FE FF FF FF")
    ∷ (read (hex "03") (hex "FE FF FF FF FF FF FF FF") gives 0 ∷ hex "03 FE FF FF FF FF FF FF FF")
    ∷ (write (hex "04") (hex "04 01 00 80 FF") [] gives 0 ∷ row (hex "01 00 80 FF"))
    ∷ (write (hex "05") (hex "05 01 00 00 00 00 00 F0 FF") [] gives 0 ∷ row (hex "01 00 00 00 00 00 F0 FF"))
    ∷ (read (hex "04") (hex "01 00 80 FF") gives 0 ∷ hex "04 01 00 80 FF")
    ∷ (read (hex "05") (hex "01 00 00 00 00 00 F0 FF") gives 0 ∷ hex "05 01 00 00 00 00 00 F0 FF")
    ∷ []
