-- FORMAT 2.2, 5.1, 5.2. 02, request 3: "is a Varchar of at most n code points. Kind 11 goes on counting bytes".
use Rattle.std.specs.Prelude.{ℕ, Bool, true, false, cond, List, leb, length}
use Rattle.text.specs.Rfc3629.{is_text}
use Rattle.text.specs.Check.{points}

-- what n counts of a text: its code points, or else its bytes
abbrev pub size_by : Bool → List ℕ → ℕ
size_by true x = points x
size_by false x = length x

-- "RFC 3629 decides which text is valid, on writing too"; a valid text of at most n
abbrev pub fits_text : Bool → ℕ → List ℕ → Bool
fits_text byPoints n x = cond (is_text x) (leb (size_by byPoints x) n) false
