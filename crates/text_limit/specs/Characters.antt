-- FORMAT 5.1, 5.3. 02, request 3: "at most n code points", by the characters of RFC 3629 end to end.
use Rattle.std.specs.Prelude.{ℕ, ◌≤◌, true, false, List, ◌↔◌, ◌≡◌}
use Rattle.text.specs.Characters.{Characters}
use Rattle.text_limit.specs.Limit.{fits_text}

-- x is at most n characters end to end
pub record AtMost (n : ℕ) (x : List ℕ) : Type 0 where
  pub count : ℕ
  pub all : Characters x count
  pub few : count ≤ n

-- where n counts code points, exactly these texts fit, however many bytes they have
abbrev pub FitsCharacters : Type 0
FitsCharacters = (n : ℕ) (x : List ℕ) → (fits_text true n x ≡ true) ↔ AtMost n x

-- what fits n bytes fits n code points
abbrev pub FitsEither : Type 0
FitsEither = (n : ℕ) (x : List ℕ) → fits_text false n x ≡ true → fits_text true n x ≡ true
