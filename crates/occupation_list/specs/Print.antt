-- FORMAT 10.5, 10.6. 02, request 2, the whole call and all that the program prints.
use Rattle.std.specs.Prelude.{ℕ, cond, List, [], ◌∷◌, ◌++◌, map, ltb, Err, Ok}
use Rattle.error.specs.declared.Refusal.{Refusal}
use Rattle.error.specs.Refusal.{number_of, place_of}
use Rattle.error.specs.Result.{Result, on_result, before}
use Rattle.error.specs.Answer.{Outcome, unchanged, placed}
use Rattle.laws.specs.Bytes.{concat}
use Rattle.calendar.specs.Moment.{ascii_digits}
use Rattle.row_list.specs.Rows.{rows_of}
use Rattle.occupation.specs.Occupation.{Occupation, occupation_in}
use Rattle.occupation.specs.Order.{precedes}
use Rattle.occupation.specs.Line.{line}
use Rattle.occupation_list.specs.Ordered.{ordered}

-- "at most 512 rows"
abbrev pub row_count_limit : ℕ
row_count_limit = 512

-- "then the reading refusals row by row; 17, after those of its row": the first row that is refused decides. Each row
-- is of the sort that its own mark tells.
abbrev pub occupations_in : List (List ℕ) → Result (List Occupation)
occupations_in [] = Ok []
occupations_in (r ∷ rs) = on_result (occupation_in r) Err (λ o. before o (occupations_in rs))

-- "16 for a list that is cut or over its limits, tested first"
abbrev pub occupations_of : List ℕ → Result (List Occupation)
occupations_of list = on_result (rows_of row_count_limit list) Err occupations_in

-- "It prints one line a row, ordered"
abbrev pub lines_of : List Occupation → List ℕ
lines_of os = concat (map line (ordered precedes os))

-- the call: the answer, and the bytes of `out` afterwards
abbrev pub print_call : List ℕ → List ℕ → Outcome
print_call list out = on_result (occupations_of list) (unchanged out) (λ os. placed out (lines_of os))

-- ---- the program

-- a number below 100, as all numbers and places of these refusals are
abbrev pub decimal : ℕ → List ℕ
decimal n = cond (ltb n 10) (ascii_digits 1 n) (ascii_digits 2 n)

-- "After a refusal it prints only a line of number and place, a space between."
abbrev pub refusal_line : Refusal → List ℕ
refusal_line e = decimal (number_of e) ++ (0x20 ∷ (decimal (place_of e) ++ (0x0A ∷ [])))

-- all that the program prints
abbrev pub report : List ℕ → List ℕ
report list = on_result (occupations_of list) refusal_line lines_of

abbrev pub report_call : List ℕ → List ℕ → Outcome
report_call list out = placed out (report list)
