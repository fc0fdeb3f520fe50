-- FORMAT 10.2. 02, request 2: "the reading refusals": a row is refused with a number other than 17 exactly if a read of
-- all of its columns is, whatever is lent to it, and not for want of room.
use Rattle.std.specs.Prelude.{ℕ, ◌≡◌, ◌↔◌, List, [], ◌∷◌, Err}
use Rattle.error.specs.declared.Refusal.{Refusal}
use Rattle.error.specs.Refusal.{number_of}
use Rattle.error.specs.Answer.{unchanged_both}
use Rattle.row_decode.specs.Read.{read_call}
use Rattle.occupation.specs.Occupation.{occupation_in}

-- Varchar(16), Varchar(64), Timestamp, Timestamp
abbrev pub occupation_schema : List ℕ
occupation_schema = 0x0B ∷ 0x10 ∷ 0x00 ∷ 0x0B ∷ 0x40 ∷ 0x00 ∷ 0x0F ∷ 0x0F ∷ []

abbrev pub all_columns : List ℕ
all_columns = 0 ∷ 1 ∷ 2 ∷ 3 ∷ []

abbrev pub RefusedAsRead : Type 0
RefusedAsRead =
    (r out counts : List ℕ) (e : Refusal) → (number_of e ≡ 14 → ⊥) → (number_of e ≡ 17 → ⊥)
    → (occupation_in r ≡ Err e)
    ↔ (read_call occupation_schema r all_columns out counts ≡ unchanged_both out counts e)
