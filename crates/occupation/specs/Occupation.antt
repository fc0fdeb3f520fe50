-- FORMAT 10.2. 02, request 2: what is printed of a row, and 17.
use Rattle.std.specs.Prelude.{ℕ, Bool, true, false, cond, ◌||◌, List, [], ◌∷◌, eqb, ltb, length, get_or, Err, Ok}
use Rattle.std.proofs.Math.Option.{Option, none, some}
use Rattle.error.specs.declared.Refusal.TheVariants.{Unprintable}
use Rattle.error.specs.Result.{Result, on_result}
use Rattle.row_format.specs.Places.{offset_width}
use Rattle.row_format.specs.Header.{is_long}
use Rattle.datatype.specs.declared.DataType.{DataType}
use Rattle.datatype.specs.declared.DataType.TheVariants.{Varchar, Timestamp}
use Rattle.value.specs.declared.DataValue.{DataValue}
use Rattle.value.specs.declared.DataValue.TheVariants as D
use Rattle.value.specs.Kinds.{kind_of}
use Rattle.value.specs.Ranges.{text_of}
use Rattle.calendar.specs.Moment.{since_year_one}
use Rattle.row_column.specs.Frame.{frame_of, on_frame}
use Rattle.row_decode.specs.Read.{read_from}

-- "Columns are platform Varchar(16), unit Varchar(64), arrival Timestamp, departure Timestamp."
abbrev pub columns : List DataType
columns = Varchar false 16 ∷ Varchar false 64 ∷ Timestamp ∷ Timestamp ∷ []

-- a text, or a moment in microseconds from 0001-01-01 00:00:00 on; none for a null
pub record Occupation : Type 0 where
  pub platform : Option (List ℕ)
  pub unit : Option (List ℕ)
  pub arrival : Option ℕ
  pub departure : Option ℕ

-- a value that was read from the row r: null or a Varchar; null or a Timestamp
abbrev pub text_in : List ℕ → DataValue → Option (List ℕ)
text_in r v = cond (eqb (kind_of v) 0) none (some (text_of r v))

abbrev pub moment_in : DataValue → Option ℕ
moment_in D.Null = none
moment_in (D.SmallInt x) = none
moment_in (D.Int x) = none
moment_in (D.BigInt x) = none
moment_in (D.Real x) = none
moment_in (D.DoublePrecision x) = none
moment_in (D.Numeric n) = none
moment_in (D.Bool b) = none
moment_in (D.Char x) = none
moment_in (D.Varchar x) = none
moment_in (D.Date x) = none
moment_in (D.Time x) = none
moment_in (D.Bit x) = none
moment_in (D.Timestamp z) = some (since_year_one z)

abbrev pub occupation_of : List ℕ → List DataValue → Occupation
occupation_of r vs =
    record {
      platform = text_in r (get_or vs 0 D.Null);
      unit = text_in r (get_or vs 1 D.Null);
      arrival = moment_in (get_or vs 2 D.Null);
      departure = moment_in (get_or vs 3 D.Null);
    }

-- "a text with a double quote or a byte below 32"
abbrev pub is_unprintable : List ℕ → Bool
is_unprintable [] = false
is_unprintable (b ∷ bs) = (ltb b 32 || eqb b 0x22) || is_unprintable bs

abbrev pub has_unprintable : Option (List ℕ) → Bool
has_unprintable none = false
has_unprintable (some t) = is_unprintable t

-- 17: "place the first such column"
abbrev pub printable : Occupation → Result Occupation
printable o =
    cond (has_unprintable o.platform) (Err (Unprintable 0))
    (cond (has_unprintable o.unit) (Err (Unprintable 1)) (Ok o))

-- "the reading refusals", which are those of a read of all columns; "17, after those of its row".
-- The row is taken as of sort k.
abbrev pub occupation_as : Bool → List ℕ → Result Occupation
occupation_as k r =
    on_frame (frame_of k columns r) Err
    (λ p. on_result (read_from (offset_width k) p columns (λ i. true) r 0 (length columns)) Err
    (λ vs. printable (occupation_of r vs)))

-- 02, request 5: "On a read or edit the row's own mark tells the sort"
abbrev pub occupation_in : List ℕ → Result Occupation
occupation_in r = occupation_as (is_long r) r
