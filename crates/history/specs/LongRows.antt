-- FORMAT 3.11, 4.6, 9.1. 02, request 5: a history of long rows on S, "with the last accepted texts of a long row in
-- kinds 17, 18 and 19".
use Rattle.std.specs.Prelude.{true, List, [], ◌∷◌, ◌≡◌, replicate, Err, Ok}
use Rattle.error.specs.declared.Refusal.TheVariants.{WrongKind, Unsuitable}
use Rattle.value_list.specs.Lists.{list_of}
use Rattle.history.specs.History.{Call, set_value, last_values, texts}
use Rattle.history.specs.Demand.{History, left, replies, sheet}
use Rattle.history.specs.Worked.{S, columns_s}

-- column 0 set to 1; column 1 to "AB" in kind 9; to a range past the area in kind 18, which is 12; column 2 to a text,
-- which is 11
abbrev pub edits : List Call
edits =
    set_value 0 (2 ∷ 1 ∷ 0 ∷ 0 ∷ 0 ∷ []) []
    ∷ set_value 1 (9 ∷ 1 ∷ 0 ∷ 2 ∷ 0 ∷ []) (0x40 ∷ 0x41 ∷ 0x42 ∷ [])
    ∷ set_value 1 (0x12 ∷ replicate 8 0xFF) (0x41 ∷ [])
    ∷ set_value 2 (0x12 ∷ replicate 8 0) []
    ∷ []

pub record LongRows : Type 0 where
  -- these calls are a history of long rows: all that `History` asks is met
  pub history : History true S columns_s
  pub these : history.calls ≡ edits
  pub answers-given : replies history ≡ Ok 15 ∷ Ok 17 ∷ Err (Unsuitable 1) ∷ Err (WrongKind 2) ∷ []
  pub leaves : left history
      ≡ record {
        buf =
            3 ∷ 0 ∷ 1 ∷ 0xC0 ∷ 4 ∷ 0x0F ∷ 0 ∷ 0 ∷ 0 ∷ 1 ∷ 0 ∷ 0 ∷ 0 ∷ 0 ∷ 0 ∷ 0x41 ∷ 0x42 ∷ 0xEE ∷ [];
        row-length = 17;
      }
  -- the last accepted values, as the builder gets them: kind 18 for the text that was set in kind 9
  pub listed : list_of true (last_values 0 (sheet history))
      ≡ 2 ∷ 1 ∷ 0 ∷ 0 ∷ 0 ∷ 0x12 ∷ 0 ∷ 0 ∷ 0 ∷ 0 ∷ 2 ∷ 0 ∷ 0 ∷ 0 ∷ 0 ∷ []
  pub spelt : texts (sheet history) ≡ 0x41 ∷ 0x42 ∷ []
