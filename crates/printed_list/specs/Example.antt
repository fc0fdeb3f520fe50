-- FORMAT 10.3, 10.6. 02, request 2, worked out: lists, and all that the program prints of each; moments.
use Rattle.std.specs.Prelude.{ℕ, ◌-◌, ◌≡◌, List, [], ◌∷◌, ◌++◌, map, ℤ, pos, negsuc, length, take, drop, replicate}
use Prim.Native.Char.{code}
use Prim.Native.String.{String, [] as end, ◌∷◌ as ◌then◌}
use Rattle.laws.specs.Bytes.{concat}
use Rattle.calendar.specs.Moment.{moment_text, since_year_one}
use Rattle.occupation_list.specs.Print.{report}

abbrev pub ascii : String → List ℕ
ascii end = []
ascii (c then s) = code c ∷ ascii s

pub record Case : Type 0 where
  pub input : List ℕ
  pub output : List ℕ

-- "For platform 3, unit T41, arrival 0 and no departure"
abbrev pub t41 : List ℕ
t41 =
    0x1D ∷ 0x00 ∷ 0x04 ∷ 0x00 ∷ 0x02 ∷ 0x80 ∷ 0x08 ∷ 0x19 ∷ 0x00 ∷ 0x1A ∷ 0x00
    ∷ (replicate 16 0x00 ++ (0x33 ∷ 0x54 ∷ 0x34 ∷ 0x31 ∷ []))

-- another row after its length, from its null bits, the offsets of its texts, its moments and its texts
abbrev pub row : ℕ → ℕ → ℕ → ℕ → List ℕ → List ℕ → List ℕ → List ℕ
row size nulls platform unit arrival departure texts =
    size ∷ 0x00 ∷ 0x04 ∷ 0x00 ∷ 0x02 ∷ 0x80 ∷ nulls ∷ platform ∷ 0x00 ∷ unit ∷ 0x00
    ∷ (arrival ++ (departure ++ texts))

abbrev pub zeros : List ℕ
zeros = replicate 8 0x00

-- platform 3, no unit, a microsecond before 1970 and the last one of 9999
abbrev pub long : List ℕ
long =
    row 0x1A 0x02 0x19 0x00 (replicate 8 0xFF) (0xFF ∷ 0x5F ∷ 0x73 ∷ 0xCC ∷ 0x0C ∷ 0x44 ∷ 0x84 ∷ 0x03 ∷ [])
    (ascii "3")

-- nothing but an empty unit
abbrev pub bare : List ℕ
bare = row 0x19 0x0D 0x00 0x19 zeros zeros []

-- platform 10, arrival 1
abbrev pub ten : List ℕ
ten = row 0x1B 0x0A 0x19 0x00 (0x01 ∷ replicate 7 0x00) zeros (ascii "10")

abbrev pub four : List ℕ
four = t41 ++ (long ++ (bare ++ ten))

-- a unit that cannot be printed; a departure that is none, with a platform that can and one that cannot be printed
abbrev pub quote : List ℕ
quote = row 0x1C 0x08 0x19 0x1A zeros zeros (ascii "3A\"")

abbrev pub late : List ℕ → List ℕ
late platform = row 0x1A 0x02 0x19 0x00 zeros (replicate 8 0x7F) platform

-- the same row padded: the flag of its header is clear
abbrev pub padded_row : List ℕ
padded_row = take 5 t41 ++ (0x00 ∷ drop 6 t41)

-- 02, request 5: the same row long by its marks, packed or padded; without the mark of its sort it is another row
abbrev pub long_row : ℕ → List ℕ
long_row marks =
    0x21 ∷ 0x00 ∷ 0x04 ∷ 0x00 ∷ 0x02 ∷ marks ∷ 0x08 ∷ 0x1D ∷ 0x00 ∷ 0x00 ∷ 0x00 ∷ 0x1E ∷ 0x00 ∷ 0x00 ∷ 0x00
    ∷ (replicate 16 0x00 ++ (0x33 ∷ 0x54 ∷ 0x34 ∷ 0x31 ∷ []))

abbrev pub line-t41 : List ℕ
line-t41 = ascii "\"3\"|\"T41\"|1970-01-01 00:00:00|-\n"

unfoldable pub table : List Case
table =
    record { input = []; output = [] }
    ∷ record { input = t41; output = line-t41 }
    ∷ record {
      input = four;
      output = concat (
          ascii "-|\"\"|-|-\n"
          ∷ ascii "\"10\"|-|1970-01-01 00:00:00|-\n"
          ∷ ascii "\"3\"|-|1969-12-31 23:59:59|9999-12-31 23:59:59\n"
          ∷ line-t41
          ∷ []
          );
    }
    ∷ record { input = padded_row; output = line-t41 }
    ∷ record { input = long_row 0xC0; output = line-t41 }
    ∷ record { input = long_row 0x40 ++ t41; output = line-t41 ++ line-t41 }
    ∷ record { input = long_row 0x80; output = ascii "\"3T41\"|-|1970-01-01 00:00:00|-\n" }
    ∷ record { input = take (length four - 1) four; output = ascii "16 0\n" }
    ∷ record { input = t41 ++ (0x03 ∷ 0x00 ∷ 0x04 ∷ 0x00 ∷ 0x02 ∷ []); output = ascii "3 0\n" }
    ∷ record { input = t41 ++ quote; output = ascii "17 1\n" }
    ∷ record { input = quote ++ late (ascii "3"); output = ascii "17 1\n" }
    ∷ record { input = late (ascii "3") ++ quote; output = ascii "8 3\n" }
    ∷ record { input = late (ascii "\""); output = ascii "8 3\n" }
    ∷ record { input = replicate 1024 0x00; output = ascii "3 0\n" }
    ∷ record { input = replicate 1026 0x00; output = ascii "16 0\n" }
    ∷ []

abbrev pub Worked : Type 0
Worked = map (λ c. report c.input) table ≡ map (λ c. c.output) table

-- ---- moments: the first and the last, leap years and full centuries, the second before 1970

pub record MomentCase : Type 0 where
  pub micros : ℤ
  pub output : List ℕ

unfoldable pub moments : List MomentCase
moments =
    record { micros = negsuc 62135596799999999; output = ascii "0001-01-01 00:00:00" }
    ∷ record { micros = negsuc 2203891200999999; output = ascii "1900-02-28 23:59:59" }
    ∷ record { micros = negsuc 2203891199999999; output = ascii "1900-03-01 00:00:00" }
    ∷ record { micros = negsuc 0; output = ascii "1969-12-31 23:59:59" }
    ∷ record { micros = pos 0; output = ascii "1970-01-01 00:00:00" }
    ∷ record { micros = pos 951782400000000; output = ascii "2000-02-29 00:00:00" }
    ∷ record { micros = pos 4107542400000000; output = ascii "2100-03-01 00:00:00" }
    ∷ record { micros = pos 253402300799999999; output = ascii "9999-12-31 23:59:59" }
    ∷ []

abbrev pub WorkedMoments : Type 0
WorkedMoments = map (λ c. moment_text (since_year_one c.micros)) moments ≡ map (λ c. c.output) moments
