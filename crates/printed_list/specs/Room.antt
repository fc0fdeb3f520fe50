-- FORMAT 10.6. A printed list has at most 512 lines of at most 126 bytes, which are 18 and 66 for the texts in their
-- quotes, 19 for each moment, three bars and a line feed. So the program, with 65,536 bytes of output, never meets 14.
use Rattle.std.specs.Prelude.{ℕ, ◌≤◌, ◌≡◌, List, length, Ok}
use Rattle.std.proofs.lemmas.List.Edits.{sets}
use Rattle.occupation.specs.Occupation.{Occupation}
use Rattle.occupation_list.specs.Print.{occupations_of, lines_of, print_call, report, report_call}

abbrev pub lines_limit : ℕ
lines_limit = 64512

abbrev pub report_limit : ℕ
report_limit = 65536

-- the call on a list of the occupations os, which is not refused
pub record LinesFit (list : List ℕ) (os : List Occupation) : Type 0 where
  pub lines : length (lines_of os) ≤ lines_limit
  pub done : (out : List ℕ) → lines_limit ≤ length out
      → print_call list out ≡ (Ok (length (lines_of os)), sets out 0 (lines_of os))

-- the program on any list
pub record ReportFits (list : List ℕ) : Type 0 where
  pub lines : length (report list) ≤ report_limit
  pub done : (out : List ℕ) → report_limit ≤ length out
      → report_call list out ≡ (Ok (length (report list)), sets out 0 (report list))

abbrev pub LinesFitAlways : Type 0
LinesFitAlways = (list : List ℕ) (os : List Occupation) → occupations_of list ≡ Ok os → LinesFit list os

abbrev pub ReportFitsAlways : Type 0
ReportFitsAlways = (list : List ℕ) → ReportFits list
