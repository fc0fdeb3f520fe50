-- FORMAT 3.9, 7.1, 7.3, 7.4, 7.5, 8.3. 01's row 2, of 1, "AB", null, and its long twin: the premises of the statements
-- about rows that were built and rows that are read are met by them.
use Rattle.std.specs.Prelude.{ℕ, true, false, List, [], ◌∷◌, ◌≡◌, get_or, replicate, Ok}
use Rattle.std.specs.Int.{w8}
use Rattle.std.proofs.Common.{Fits}
use Rattle.row_build.specs.Build.{build_call}
use Rattle.row_build.specs.Built.{Built}
use Rattle.row_text.specs.Text.{text_call}
use Rattle.round_trip.specs.Same.{FullRead, list_read}
use Rattle.round_trip.specs.Layouts.{AllAlike}

-- "S is Int, Varchar(5), SmallInt"; with kind 16 the Varchar has at most 5 code points
abbrev pub S : ℕ → List ℕ
S varchar = 2 ∷ varchar ∷ 5 ∷ 0 ∷ 1 ∷ []

-- the value list and its text area
abbrev pub values : List ℕ
values = 2 ∷ 1 ∷ 0 ∷ 0 ∷ 0 ∷ 9 ∷ 0 ∷ 0 ∷ 2 ∷ 0 ∷ 0 ∷ []

abbrev pub text : List ℕ
text = 0x41 ∷ 0x42 ∷ []

-- the rows, short and long
abbrev pub short2 : List ℕ
short2 = 3 ∷ 0 ∷ 1 ∷ 0x80 ∷ 4 ∷ 0x0D ∷ 0 ∷ 1 ∷ 0 ∷ 0 ∷ 0 ∷ 0 ∷ 0 ∷ 0x41 ∷ 0x42 ∷ []

abbrev pub long2 : List ℕ
long2 = 3 ∷ 0 ∷ 1 ∷ 0xC0 ∷ 4 ∷ 0x0F ∷ 0 ∷ 0 ∷ 0 ∷ 1 ∷ 0 ∷ 0 ∷ 0 ∷ 0 ∷ 0 ∷ 0x41 ∷ 0x42 ∷ []

abbrev pub lent : ℕ → List ℕ
lent n = replicate n 0xEE

abbrev pub OfBytes : List ℕ → Type 0
OfBytes bs = (k : ℕ) → Fits w8 (get_or bs k 0)

pub record Examples : Type 0 where
  -- `NullsBack`, `BuiltReadsBack`, `BuiltTextBack`: a build that answered Ok, of a list of bytes
  pub short : Built false (S 11) values text (lent 15) 15 short2
  pub list-bytes : OfBytes values
  -- `Twins`: one of the long row, of the same list
  pub long : Built true (S 11) values text (lent 17) 17 long2
  -- `OneLayout`: one under a schema whose columns are alike
  pub characters : Built false (S 16) values text (lent 15) 15 short2
  pub alike : AllAlike short.columns characters.columns
  -- `SameAsItself`, `SameEitherWay`: reads of all columns that answered Ok
  pub short-read : FullRead (S 11) short2
  pub long-read : FullRead (S 11) long2
  -- `SameAsBuilt`: what was read is built again, as a row of the other sort
  pub row-bytes : OfBytes short2
  pub rebuilt : build_call true (S 11) (list_read short-read) short2 (lent 17) (replicate 3 7)
      ≡ (Ok 17, (long2, 0 ∷ 2 ∷ 0 ∷ []))
  -- `TextAsRead`: the text call answers neither 9 nor 11
  pub part : text_call (S 11) short2 1 ≡ Ok (record { start = 13; length = 2 })
