-- FORMAT 10.7. The lines of a list, and all that the program prints, are text by RFC 3629.
use Rattle.std.specs.Prelude.{◌≡◌, true, List, ℕ, Ok}
use Rattle.text.specs.Rfc3629.{is_text}
use Rattle.occupation.specs.Occupation.{Occupation}
use Rattle.occupation_list.specs.Print.{occupations_of, lines_of, report}

abbrev pub LinesText : Type 0
LinesText = (list : List ℕ) (os : List Occupation) → occupations_of list ≡ Ok os → is_text (lines_of os) ≡ true

abbrev pub ReportText : Type 0
ReportText = (list : List ℕ) → is_text (report list) ≡ true
