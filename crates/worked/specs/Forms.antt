-- 02, request 4, worked out: characters and the forms that they have, texts of all forms, and bytes of none, each case
-- as what the definitions compute beside what is stated.
use Rattle.std.specs.Prelude.{ℕ, cond, List, [], ◌∷◌, ◌++◌}
use Rattle.text.specs.Characters.{is_one, utf8}
use Rattle.worked.specs.Cases.{Case}
use Rattle.worked.specs.Widths.{checked}

-- those numbers k for which c is UTF8-k
abbrev pub forms_among : List ℕ → List ℕ → List ℕ
forms_among [] c = []
forms_among (k ∷ ks) c = cond (is_one (utf8 k) c) (k ∷ forms_among ks c) (forms_among ks c)

abbrev pub forms_of : List ℕ → List ℕ
forms_of = forms_among (0 ∷ 1 ∷ 2 ∷ 3 ∷ 4 ∷ 5 ∷ [])

-- a character of each form: "A", "é", "€", U+1F686
abbrev pub one : List ℕ
one = 0x41 ∷ []

abbrev pub two : List ℕ
two = 0xC3 ∷ 0xA9 ∷ []

abbrev pub three : List ℕ
three = 0xE2 ∷ 0x82 ∷ 0xAC ∷ []

abbrev pub four : List ℕ
four = 0xF0 ∷ 0x9F ∷ 0x9A ∷ 0x86 ∷ []

unfoldable pub table : List Case
table =
    record { computed = forms_of one; stated = 1 ∷ [] }
    ∷ record { computed = forms_of two; stated = 2 ∷ [] }
    ∷ record { computed = forms_of three; stated = 3 ∷ [] }
    ∷ record { computed = forms_of four; stated = 4 ∷ [] }
    -- "41 C3 A9 E2 82 AC F0 9F 9A 86 has 4, one of each form"; two of them are no character
    ∷ record { computed = checked (one ++ (two ++ (three ++ four))); stated = 1 ∷ 4 ∷ [] }
    ∷ record { computed = forms_of (one ++ two); stated = [] }
    -- "C3 A9 41 C3 A9 has 3"
    ∷ record { computed = checked (two ++ (one ++ two)); stated = 1 ∷ 3 ∷ [] }
    -- "ED A0 80, C0 80, F4 90 80 80, E2 89 (cut) are invalid", and F5 80 80 80
    ∷ record { computed = checked (0xED ∷ 0xA0 ∷ 0x80 ∷ []); stated = 0 ∷ 0 ∷ [] }
    ∷ record { computed = checked (0xC0 ∷ 0x80 ∷ []); stated = 0 ∷ 0 ∷ [] }
    ∷ record { computed = checked (0xF4 ∷ 0x90 ∷ 0x80 ∷ 0x80 ∷ []); stated = 0 ∷ 0 ∷ [] }
    ∷ record { computed = checked (0xE2 ∷ 0x89 ∷ []); stated = 0 ∷ 0 ∷ [] }
    ∷ record { computed = checked (0xF5 ∷ 0x80 ∷ 0x80 ∷ 0x80 ∷ []); stated = 0 ∷ 0 ∷ [] }
    ∷ []
