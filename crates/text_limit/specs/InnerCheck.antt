-- For the proofs: the text check of a text that has at most n bytes or code points.
use Rattle.std.specs.Prelude.{ℕ, Bool, cond, List, leb, None, Option, Some}
use Rattle.text.specs.Check.{points}
use Rattle.text_limit.specs.Limit.{fits_text}

-- its code points, where it fits
abbrev pub check_within : Bool → ℕ → List ℕ → Option ℕ
check_within byPoints n x = cond (fits_text byPoints n x) (Some (points x)) None

-- an answer of the check that is of at most n code points
abbrev pub limited : ℕ → Option ℕ → Option ℕ
limited n (Some k) = cond (leb k n) (Some k) None
limited n None = None
