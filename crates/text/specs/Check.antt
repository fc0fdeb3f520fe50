-- FORMAT 5.3. 02, request 1: "The text check shall also say how many code points a valid text has".
use Rattle.std.specs.Prelude.{ℕ, List, Option as Checked, None, Some}
use Rattle.std.proofs.Math.Option.{Option, none, some}
use Rattle.text.specs.Rfc3629.{code_points}

-- the check's answer: valid with the number of code points, or invalid
abbrev pub check_of : Option ℕ → Checked ℕ
check_of none = None
check_of (some n) = Some n

-- the number of code points of a text; 0 for bytes that are none
abbrev pub points_of : Option ℕ → ℕ
points_of none = 0
points_of (some n) = n

abbrev pub points : List ℕ → ℕ
points s = points_of (code_points s)
