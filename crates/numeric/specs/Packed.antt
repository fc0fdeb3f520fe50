-- FORMAT 5.1, 5.2. 01, "Stored forms": "Numeric and Decimal: digits of the unscaled number, one a nibble, a zero nibble
-- in front when precision is even, then C or D; D only below zero".
use Rattle.std.specs.Prelude.{ℕ, ◌+◌, ◌*◌, ◌/◌, ◌%◌, Bool, true, false, cond, ◌&&◌, List, [], ◌∷◌, ◌++◌, eqb, leb, length, get_or, take, drop, replicate, Option, None, Some}
use Rattle.numeric.specs.Decimal.{digits, denote}

-- nibbles two a byte, the first in the upper half, and the nibbles of bytes
abbrev pub pairs : List ℕ → List ℕ
pairs [] = []
pairs (a ∷ []) = a * 16 ∷ []
pairs (a ∷ b ∷ ns) = (a * 16 + b) ∷ pairs ns

abbrev pub nibbles : List ℕ → List ℕ
nibbles [] = []
nibbles (b ∷ bs) = b / 16 ∷ b % 16 ∷ nibbles bs

-- 1 where p is even
abbrev pub front_size : ℕ → ℕ
front_size p = (p + 1) % 2

abbrev pub sign_nibble : Bool → ℕ
sign_nibble true = 0xD
sign_nibble false = 0xC

-- the packed form of digits and a sign; and of a number, with p digits
abbrev pub packed_nibbles : Bool → List ℕ → List ℕ
packed_nibbles negative ds = replicate (front_size (length ds)) 0 ++ (ds ++ (sign_nibble negative ∷ []))

unfoldable pub encode_bcd : ℕ → Bool → ℕ → List ℕ
encode_bcd p negative x = pairs (packed_nibbles negative (digits p x))

-- bytes read back: p digits after the front nibble, which is not looked at, and then the sign
abbrev pub all_digits : List ℕ → Bool
all_digits [] = true
all_digits (d ∷ ds) = leb d 9 && all_digits ds

abbrev pub magnitude_of : List ℕ → Option ℕ
magnitude_of ds = cond (all_digits ds) (Some (denote ds)) None

-- whether it is negative, and its magnitude
abbrev pub signed : ℕ → Option ℕ → Option (Bool × ℕ)
signed s (Some m) = cond (eqb s 0xC) (Some (false, m)) (cond (eqb s 0xD) (Some (true, m)) None)
signed s None = None

abbrev pub decode_bcd : ℕ → List ℕ → Option (Bool × ℕ)
decode_bcd p bs =
    signed (get_or (nibbles bs) (front_size p + p) 0) (magnitude_of (take p (drop (front_size p) (nibbles bs))))
