-- For the proofs: the fields of a row as the code holds them, and what it hands on.
use Rattle.std.specs.Prelude.{ℕ, ◌+◌, ◌-◌, ◌≤◌, ◌<◌, Bool, true, false, List, take, drop, Option as Found, None, Some, Err, Ok}
use Rattle.std.proofs.Math.Option.{Option, none, some}
use Rattle.error.specs.Result.{Result}
use Rattle.occupation.specs.declared.Span.{Span}
use Rattle.occupation.specs.declared.Fields.{Fields}
use Rattle.occupation.specs.Occupation.{Occupation}

-- the bytes of a text, the text or a null, and a moment
abbrev pub bytes_of : List ℕ → Span → List ℕ
bytes_of r x = take (x.end - x.start) (drop x.start r)

abbrev pub spanned : List ℕ → Found Span → Option (List ℕ)
spanned r None = none
spanned r (Some x) = some (bytes_of r x)

abbrev pub moment_from : Found ℕ → Option ℕ
moment_from None = none
moment_from (Some m) = some m

abbrev pub fields_shown : List ℕ → Fields → Occupation
fields_shown r f =
    record {
      platform = spanned r f.platform;
      unit = spanned r f.unit;
      arrival = moment_from f.arrival;
      departure = moment_from f.departure;
    }

abbrev pub read_shown : List ℕ → Result Fields → Result Occupation
read_shown r (Ok f) = Ok (fields_shown r f)
read_shown r (Err e) = Err e

-- ---- bounds, in a row of n bytes

abbrev pub Stands : ℕ → Span → Type 0
Stands n x = (x.start ≤ x.end) × (x.end ≤ n)

abbrev pub Short : ℕ → Span → Type 0
Short most x = (x.start ≤ x.end) × (x.end - x.start ≤ most)

abbrev pub Within : ℕ → Found Span → Type 0
Within n None = Unit {0}
Within n (Some x) = Stands n x

abbrev pub ShortText : ℕ → Found Span → Type 0
ShortText most None = Unit {0}
ShortText most (Some x) = Short most x

abbrev pub TextIn : ℕ → ℕ → Found Span → Type 0
TextIn n most x = Within n x × ShortText most x

-- the microseconds of 9,999 years
abbrev pub moment_limit : ℕ
moment_limit = 315537897600000000

abbrev pub MomentIn : Found ℕ → Type 0
MomentIn None = Unit {0}
MomentIn (Some m) = m < moment_limit

pub record FieldsIn (n : ℕ) (f : Fields) : Type 0 where
  pub platform_in : TextIn n 16 f.platform
  pub unit_in : TextIn n 64 f.unit
  pub arrival_in : MomentIn f.arrival
  pub departure_in : MomentIn f.departure

abbrev pub ShortTexts : Fields → Type 0
ShortTexts f = ShortText 16 f.platform × ShortText 64 f.unit

abbrev pub ReadIn : ℕ → Result Fields → Type 0
ReadIn n (Ok f) = FieldsIn n f
ReadIn n (Err e) = Unit {0}

-- a row that can be printed, or a column that can be read
abbrev pub is_good : {A : Type 0} → Result A → Bool
is_good (Ok o) = true
is_good (Err e) = false

-- ---- the bytes of a line

abbrev pub text_length : Found Span → ℕ
text_length None = 1
text_length (Some x) = x.end - x.start + 2

abbrev pub moment_length : Found ℕ → ℕ
moment_length None = 1
moment_length (Some m) = 19

abbrev pub line_length : Fields → ℕ
line_length f = text_length f.platform + text_length f.unit + moment_length f.arrival + moment_length f.departure + 4
