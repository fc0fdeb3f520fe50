-- For the proofs: a row read column after column.
use Rattle.value.specs.declared.DataValue.{DataValue}
use Rattle.std.specs.Prelude.{ℕ, ◌+◌, ◌*◌, Bool, false, cond, List, eqb, drop, Option as Found, None, Some, Err, Ok}
use Rattle.std.proofs.Math.Option.{Option}
use Rattle.error.specs.Result.{Result, on_result}
use Rattle.laws.specs.Bits.{bit_at}
use Rattle.row_format.specs.Places.{offset_width, bitmap_start}
use Rattle.row_layout.specs.declared.VarlenRange.{VarlenRange}
use Rattle.row_layout.specs.declared.VarlenRange.TheVariants.{Null, Bytes, Outside}
use Rattle.row_layout.specs.Range.{varlen_range}
use Rattle.datatype.specs.declared.DataType.TheVariants.{Varchar, Timestamp}
use Rattle.row_column.specs.Column.{column_with}
use Rattle.occupation.specs.declared.Span.{Span}
use Rattle.occupation.specs.Occupation.{Occupation, text_in, moment_in, printable}
use Rattle.occupation.specs.InnerFields.{spanned, moment_from, TextIn, MomentIn}

-- ---- the places of a row of sort k

-- the slots of the two moments, which are behind a table of two offsets at byte 5, and the least length
abbrev pub arrival_place : Bool → ℕ
arrival_place k = 5 + 2 * offset_width k

abbrev pub departure_place : Bool → ℕ
departure_place k = arrival_place k + 8

abbrev pub least_length : Bool → ℕ
least_length k = departure_place k + 8

-- ---- one column

-- where a text stands: a null by its bit or by its offset
abbrev pub text_range_in : Bool → List ℕ → ℕ → VarlenRange
text_range_in k r i = cond (eqb (bit_at i (drop bitmap_start r)) 1) Null (varlen_range (offset_width k) 5 2 i r)

abbrev pub text_of_read : List ℕ → Result DataValue → Result (Option (List ℕ))
text_of_read r (Ok v) = Ok (text_in r v)
text_of_read r (Err e) = Err e

abbrev pub moment_of_read : Result DataValue → Result (Option ℕ)
moment_of_read (Ok v) = Ok (moment_in v)
moment_of_read (Err e) = Err e

-- column i, a text of at most n bytes, or a moment whose slot starts at byte `at`
abbrev pub text_column : Bool → ℕ → ℕ → List ℕ → Result (Option (List ℕ))
text_column k n i r = text_of_read r (column_with (Varchar false n) i r (varlen_range (offset_width k) 5 2 i r) 0)

abbrev pub moment_column : ℕ → ℕ → List ℕ → Result (Option ℕ)
moment_column i at r = moment_of_read (column_with Timestamp i r Null at)

-- ---- the columns one after the other

abbrev pub with_departure : Bool → List ℕ → Option (List ℕ) → Option (List ℕ) → Option ℕ → Result Occupation
with_departure k r platform unit arrival =
    on_result (moment_column 3 (departure_place k) r) Err
    (λ departure. printable
    (record { platform = platform; unit = unit; arrival = arrival; departure = departure }))

abbrev pub with_arrival : Bool → List ℕ → Option (List ℕ) → Option (List ℕ) → Result Occupation
with_arrival k r platform unit =
    on_result (moment_column 2 (arrival_place k) r) Err (with_departure k r platform unit)

abbrev pub with_unit : Bool → List ℕ → Option (List ℕ) → Result Occupation
with_unit k r platform = on_result (text_column k 64 1 r) Err (with_arrival k r platform)

abbrev pub with_platform : Bool → List ℕ → Result Occupation
with_platform k r = on_result (text_column k 16 0 r) Err (with_unit k r)

-- ---- what the code hands on

abbrev pub text_shown : List ℕ → Result (Found Span) → Result (Option (List ℕ))
text_shown r (Ok x) = Ok (spanned r x)
text_shown r (Err e) = Err e

abbrev pub moment_shown : Result (Found ℕ) → Result (Option ℕ)
moment_shown (Ok m) = Ok (moment_from m)
moment_shown (Err e) = Err e

abbrev pub ReadText : ℕ → ℕ → Result (Found Span) → Type 0
ReadText n most (Ok x) = TextIn n most x
ReadText n most (Err e) = Unit {0}

abbrev pub ReadMoment : Result (Found ℕ) → Type 0
ReadMoment (Ok m) = MomentIn m
ReadMoment (Err e) = Unit {0}

abbrev pub span_of : VarlenRange → Found Span
span_of Null = None
span_of Outside = None
span_of (Bytes a e) = Some (record { start = a; end = e })
