-- FORMAT 10.5. 02, request 2: "Texts stand in double quotes, times as date, year in four digits, and time rounded down
-- to the second, a null as a hyphen, a bar between fields."
use Rattle.std.specs.Prelude.{ℕ, List, [], ◌∷◌, ◌++◌}
use Rattle.std.proofs.Math.Option.{Option, none, some}
use Rattle.calendar.specs.Moment.{moment_text}
use Rattle.occupation.specs.Occupation.{Occupation}

abbrev pub quoted : List ℕ → List ℕ
quoted t = 0x22 ∷ (t ++ (0x22 ∷ []))

abbrev pub or_hyphen : {A : Type 0} → (A → List ℕ) → Option A → List ℕ
or_hyphen f none = 0x2D ∷ []
or_hyphen f (some x) = f x

-- "one line a row", with a line feed at its end
abbrev pub line : Occupation → List ℕ
line o =
    or_hyphen quoted o.platform
    ++ (0x7C ∷ (or_hyphen quoted o.unit
    ++ (0x7C ∷ (or_hyphen moment_text o.arrival ++ (0x7C ∷ (or_hyphen moment_text o.departure ++ (0x0A ∷ [])))))))
