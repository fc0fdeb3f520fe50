-- RFC 3629, section 4: "UTF8-octets = *( UTF8-char )" as characters end to end. That their number is `code_points` is
-- proved in proofs/Characters.antt. FORMAT 5.3.
use Rattle.std.specs.Prelude.{ℕ, zero, suc, ◌≡◌, Bool, true, false, ◌&&◌, ◌||◌, List, [], ◌∷◌, ◌++◌, get_or}
use Rattle.text.specs.Rfc3629.{Form, within, utf8_1, utf8_2, utf8_3, utf8_4}

-- c is a character of the form: a byte in each of its ranges, and no more
abbrev pub is_of : Form → List ℕ → Bool
is_of [] [] = true
is_of [] (b ∷ c) = false
is_of (r ∷ rest) [] = false
is_of (r ∷ rest) (b ∷ c) = within r b && is_of rest c

-- of one of the forms
abbrev pub is_one : List Form → List ℕ → Bool
is_one [] c = false
is_one (f ∷ forms) c = is_of f c || is_one forms c

-- of the j-th of the forms, which are numbered from 0 on
abbrev pub is_nth : List Form → ℕ → List ℕ → Bool
is_nth [] j c = false
is_nth (f ∷ forms) zero c = is_of f c
is_nth (f ∷ forms) (suc j) c = is_nth forms j c

-- UTF8-k; there is none for 0 and from 5 on
abbrev pub utf8 : ℕ → List Form
utf8 k = get_or ([] ∷ utf8_1 ∷ utf8_2 ∷ utf8_3 ∷ utf8_4 ∷ []) k []

-- 02, request 4: "each character it counts has exactly one of those forms". c is UTF8-k for one k alone, and has one of
-- its alternatives alone.
pub record OneForm (c : List ℕ) : Type 0 where
  pub form : ℕ
  pub has : is_one (utf8 form) c ≡ true
  pub only : (k : ℕ) → is_one (utf8 k) c ≡ true → k ≡ form
  pub alternative : ℕ
  pub is : is_nth (utf8 form) alternative c ≡ true
  pub alone : (j : ℕ) → is_nth (utf8 form) j c ≡ true → j ≡ alternative

-- s is n characters end to end, each of one form
pub data Characters : List ℕ → ℕ → Type 0 where
  end : Characters [] 0
  next : {s : List ℕ} {n : ℕ} (c : List ℕ) → OneForm c → Characters s n → Characters (c ++ s) (suc n)
