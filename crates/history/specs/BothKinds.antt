-- FORMAT 2.2, 9.1. 02, request 3: "histories of edits may contain both kinds". Each kind takes a text and refuses one.
use Rattle.std.specs.Prelude.{ℕ, true, false, List, [], ◌∷◌, ◌++◌, ◌≡◌, Err, Ok}
use Rattle.std.proofs.Math.Option.{none, some}
use Rattle.error.specs.declared.Refusal.TheVariants.{Unsuitable}
use Rattle.datatype.specs.declared.DataType.{DataType}
use Rattle.datatype.specs.declared.DataType.TheVariants as T
use Rattle.value.specs.declared.DataValue.TheVariants as D
use Rattle.history.specs.History.{Call, set_value}
use Rattle.history.specs.Demand.{History, left, replies, sheet}

-- 10 03 00 0B 03 00 02: three code points, three bytes, Int
abbrev pub schema : List ℕ
schema = 0x10 ∷ 3 ∷ 0 ∷ 0x0B ∷ 3 ∷ 0 ∷ 2 ∷ []

abbrev pub columns : List DataType
columns = T.Varchar true 3 ∷ T.Varchar false 3 ∷ T.Int ∷ []

-- "é€é", seven bytes
abbrev pub text : List ℕ
text = 0xC3 ∷ 0xA9 ∷ 0xE2 ∷ 0x82 ∷ 0xAC ∷ 0xC3 ∷ 0xA9 ∷ []

-- it is set in column 0, and in column 1, which is 12; with a fourth character in column 0, which is 12; its first
-- character in column 1
abbrev pub edits : List Call
edits =
    set_value 0 (9 ∷ 0 ∷ 0 ∷ 7 ∷ 0 ∷ []) text
    ∷ set_value 1 (9 ∷ 0 ∷ 0 ∷ 7 ∷ 0 ∷ []) text
    ∷ set_value 0 (9 ∷ 0 ∷ 0 ∷ 8 ∷ 0 ∷ []) (text ++ (0x41 ∷ []))
    ∷ set_value 1 (9 ∷ 0 ∷ 0 ∷ 2 ∷ 0 ∷ []) text
    ∷ []

pub record BothKinds : Type 0 where
  -- these calls are a history: all that `History` asks is met
  pub history : History false schema columns
  pub these : history.calls ≡ edits
  pub answers-given : replies history ≡ Ok 20 ∷ Err (Unsuitable 1) ∷ Err (Unsuitable 0) ∷ Ok 22 ∷ []
  pub leaves : left history
      ≡ record {
        buf =
            3 ∷ 0 ∷ 2 ∷ 0x80 ∷ 4 ∷ 0x0D ∷ 0 ∷ 0x14 ∷ 0 ∷ 0 ∷ 0 ∷ 0 ∷ 0 ∷ text ++ (0xC3 ∷ 0xA9 ∷ 0xEE ∷ 0xEE ∷ []);
        row-length = 22;
      }
  pub on_sheet : sheet history
      ≡ (some (D.Varchar (record { start = 0; length = 7 }), text)
      ∷ some (D.Varchar (record { start = 0; length = 2 }), 0xC3 ∷ 0xA9 ∷ [])
      ∷ none
      ∷ [])
