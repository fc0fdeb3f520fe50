-- FORMAT 9.1, 9.3. 01, "Histories of edits": "On S, setting column 0 to 1 and column 1 to "AB" leaves 1, "AB", null:
-- row 2, of 13 + 2 bytes; cases 3 and 4 go on from there." Refused calls come between.
use Rattle.error.specs.Result.{Result}
use Rattle.std.specs.Prelude.{ℕ, false, List, [], ◌∷◌, ◌++◌, ◌≡◌, pos, replicate, Err, Ok}
use Rattle.std.proofs.Math.Option.{none, some}
use Rattle.error.specs.declared.Refusal.TheVariants.{NoSuchColumn, Unsuitable}
use Rattle.datatype.specs.declared.DataType.{DataType}
use Rattle.datatype.specs.declared.DataType.TheVariants as T
use Rattle.value.specs.declared.DataValue.TheVariants as D
use Rattle.row_build.specs.Build.{fresh_call}
use Rattle.history.specs.History.{Call, set_value, set_null, State, run}
use Rattle.history.specs.Demand.{History, left, replies, sheet}

-- Int, Varchar(5), SmallInt: as schema bytes, and as types
abbrev pub S : List ℕ
S = 2 ∷ 11 ∷ 5 ∷ 0 ∷ 1 ∷ []

abbrev pub columns_s : List DataType
columns_s = T.Int ∷ T.Varchar false 5 ∷ T.SmallInt ∷ []

abbrev pub lent : List ℕ
lent = replicate 16 0xEE

abbrev pub start : State
start =
    record {
      buf = 3 ∷ 0 ∷ 1 ∷ 0x80 ∷ 7 ∷ 0 ∷ 0 ∷ 0 ∷ 0 ∷ 0 ∷ 0 ∷ 0 ∷ 0 ∷ 0xEE ∷ 0xEE ∷ 0xEE ∷ [];
      row-length = 13;
    }

-- column 0 set to 1; column 1 to "ABCDEF", which is 12; column 3 to null, which is 9; column 1 to "AB"
abbrev pub edits : List Call
edits =
    set_value 0 (2 ∷ 1 ∷ 0 ∷ 0 ∷ 0 ∷ []) []
    ∷ set_value 1 (9 ∷ 0 ∷ 0 ∷ 6 ∷ 0 ∷ []) (0x41 ∷ 0x42 ∷ 0x43 ∷ 0x44 ∷ 0x45 ∷ 0x46 ∷ [])
    ∷ set_null 3
    ∷ set_value 1 (9 ∷ 1 ∷ 0 ∷ 2 ∷ 0 ∷ []) (0x40 ∷ 0x41 ∷ 0x42 ∷ [])
    ∷ []

abbrev pub answered : List (Result ℕ)
answered = Ok 13 ∷ Err (Unsuitable 1) ∷ Err NoSuchColumn ∷ Ok 15 ∷ []

abbrev pub row2 : State
row2 =
    record {
      buf = 3 ∷ 0 ∷ 1 ∷ 0x80 ∷ 4 ∷ 0x0D ∷ 0 ∷ 1 ∷ 0 ∷ 0 ∷ 0 ∷ 0 ∷ 0 ∷ 0x41 ∷ 0x42 ∷ 0xEE ∷ [];
      row-length = 15;
    }

abbrev pub after : List Call → State
after more = run S (edits ++ more) start

pub record Worked : Type 0 where
  -- 1
  pub fresh : fresh_call false S lent ≡ (Ok 13, start.buf)
  -- these calls are a history on S: all that `History` asks is met
  pub history : History false S columns_s
  pub from_start : history.start ≡ start
  pub these : history.calls ≡ edits
  -- 2
  pub leaves : left history ≡ row2
  pub answers-given : replies history ≡ answered
  pub on_sheet : sheet history
      ≡ (some (D.Int (pos 1), [])
      ∷ some (D.Varchar (record { start = 1; length = 2 }), 0x41 ∷ 0x42 ∷ [])
      ∷ none
      ∷ [])
  -- 3: "Column 1 of it set to empty: 13 bytes, offset 0D 00."
  pub empty : after (set_value 1 (9 ∷ 0 ∷ 0 ∷ 0 ∷ 0 ∷ []) [] ∷ [])
      ≡ record {
        buf = 3 ∷ 0 ∷ 1 ∷ 0x80 ∷ 4 ∷ 0x0D ∷ 0 ∷ 1 ∷ 0 ∷ 0 ∷ 0 ∷ 0 ∷ 0 ∷ 0x41 ∷ 0x42 ∷ 0xEE ∷ [];
        row-length = 13;
      }
  -- 4: "Column 1 set null instead: 13 bytes, bitmap 06, offset 00 00."
  pub null : after (set_null 1 ∷ [])
      ≡ record {
        buf = 3 ∷ 0 ∷ 1 ∷ 0x80 ∷ 6 ∷ 0 ∷ 0 ∷ 1 ∷ 0 ∷ 0 ∷ 0 ∷ 0 ∷ 0 ∷ 0x41 ∷ 0x42 ∷ 0xEE ∷ [];
        row-length = 13;
      }
