-- FORMAT 5.3. RFC 3629, section 4: which bytes are text, and how many code points the text has. A byte is a number.
use Rattle.std.specs.Prelude.{ℕ, suc, Bool, true, false, cond, ◌&&◌, List, [], ◌∷◌, ◌++◌, leb}
use Rattle.std.proofs.Math.Option.{Option, none, some}

infixl 70 ◌to◌
-- %xLO-HI: a byte from LO to HI
pub data Range : Type 0 where
  ◌to◌ : ℕ → ℕ → Range

-- b lies in the range
abbrev pub within : Range → ℕ → Bool
within (lo to hi) b = leb lo b && leb b hi

-- UTF8-tail = %x80-BF
abbrev pub utf8_tail : Range
utf8_tail = 0x80 to 0xBF

-- one alternative of UTF8-char: a range for each of its bytes
abbrev pub Form : Type 0
Form = List Range

-- UTF8-1 = %x00-7F
abbrev pub utf8_1 : List Form
utf8_1 = (0x00 to 0x7F ∷ []) ∷ []

-- UTF8-2 = %xC2-DF UTF8-tail
abbrev pub utf8_2 : List Form
utf8_2 = (0xC2 to 0xDF ∷ utf8_tail ∷ []) ∷ []

-- UTF8-3 = %xE0 %xA0-BF UTF8-tail / %xE1-EC 2( UTF8-tail ) / %xED %x80-9F UTF8-tail / %xEE-EF 2( UTF8-tail )
abbrev pub utf8_3 : List Form
utf8_3 =
    (0xE0 to 0xE0 ∷ 0xA0 to 0xBF ∷ utf8_tail ∷ [])
    ∷ (0xE1 to 0xEC ∷ utf8_tail ∷ utf8_tail ∷ [])
    ∷ (0xED to 0xED ∷ 0x80 to 0x9F ∷ utf8_tail ∷ [])
    ∷ (0xEE to 0xEF ∷ utf8_tail ∷ utf8_tail ∷ [])
    ∷ []

-- UTF8-4 = %xF0 %x90-BF 2( UTF8-tail ) / %xF1-F3 3( UTF8-tail ) / %xF4 %x80-8F 2( UTF8-tail )
abbrev pub utf8_4 : List Form
utf8_4 =
    (0xF0 to 0xF0 ∷ 0x90 to 0xBF ∷ utf8_tail ∷ utf8_tail ∷ [])
    ∷ (0xF1 to 0xF3 ∷ utf8_tail ∷ utf8_tail ∷ utf8_tail ∷ [])
    ∷ (0xF4 to 0xF4 ∷ 0x80 to 0x8F ∷ utf8_tail ∷ utf8_tail ∷ [])
    ∷ []

-- UTF8-char = UTF8-1 / UTF8-2 / UTF8-3 / UTF8-4
abbrev pub utf8_char : List Form
utf8_char = utf8_1 ++ (utf8_2 ++ (utf8_3 ++ utf8_4))

-- one more
abbrev pub more : Option ℕ → Option ℕ
more none = none
more (some n) = some (suc n)

-- of two alternatives the first that gives a number
abbrev pub or_next : Option ℕ → Option ℕ → Option ℕ
or_next none y = y
or_next (some n) y = some n

-- A character that begins with the byte b, in the first of the forms that gives a number: b lies in the form's first
-- range, and `go` counts the characters that begin after b, where a byte in each of the form's other ranges is to
-- come first.
abbrev pub begin : List Form → ℕ → (List Range → Option ℕ) → Option ℕ
begin [] b go = none
begin ([] ∷ forms) b go = begin forms b go
begin ((r ∷ rest) ∷ forms) b go = or_next (cond (within r b) (more (go rest)) none) (begin forms b go)

-- UTF8-octets = *( UTF8-char ): the number of characters that begin in s, where a byte in each of the given ranges is
-- to come first, the rest of a character that began before s
unfoldable pub octets : List ℕ → List Range → Option ℕ
octets [] [] = some 0
octets [] (r ∷ rest) = none
octets (b ∷ s) [] = begin utf8_char b (octets s)
octets (b ∷ s) (r ∷ rest) = cond (within r b) (octets s rest) none

-- the number of code points of s, one for each character; none where s is not UTF8-octets
abbrev pub code_points : List ℕ → Option ℕ
code_points s = octets s []

-- there is a number
abbrev pub is_given : Option ℕ → Bool
is_given none = false
is_given (some n) = true

-- s is valid text
abbrev pub is_text : List ℕ → Bool
is_text s = is_given (code_points s)
