-- FORMAT 6. Answers as numbers, as they cross the C interface. With number 0 the place is 0. What a call hands out
-- after a refusal is 0, but for the length of an edit.
use Rattle.value.specs.declared.TextRange.{TextRange}
use Rattle.error.specs.Result.{Result}
use Rattle.std.specs.Prelude.{ℕ, List, Bool, Err, None, Ok, Option, Some}
use Rattle.error.specs.Answer.{Outcome, Counted}
use Rattle.error.specs.Refusal.{number_of, place_of}
use Rattle.laws.specs.Bits.{bit_value}
use Rattle.row_handle.specs.declared.RowHandle.{RowHandle}
use Rattle.row_handle.specs.Handle.{Handled}
use Rattle.rook_row.specs.declared.RowAnswer.{RowAnswer}
use Rattle.rook_row.specs.declared.FlagAnswer.{FlagAnswer}
use Rattle.rook_row.specs.declared.TextAnswer.{TextAnswer}
use Rattle.rook_row.specs.declared.CheckAnswer.{CheckAnswer}

-- a refusal hands out n: 0, or for an edit the row length that it got, so that a caller who stores it loses nothing
abbrev pub row_answer : ℕ → Result ℕ → RowAnswer
row_answer n (Ok m) = record { number = 0; place = 0; length = m }
row_answer n (Err e) = record { number = number_of e; place = place_of e; length = n }

-- with the bytes of the lent output
abbrev pub row_outcome : ℕ → Outcome → RowAnswer × List ℕ
row_outcome n o = (row_answer n o.0, o.1)

-- and the numbers of the lent list
abbrev pub counted_outcome : ℕ → Counted → RowAnswer × (List ℕ × List ℕ)
counted_outcome n o = (row_answer n o.0, o.1)

abbrev pub flag_answer : Result Bool → FlagAnswer
flag_answer (Ok b) = record { number = 0; place = 0; flag = bit_value b }
flag_answer (Err e) = record { number = number_of e; place = place_of e; flag = 0 }

abbrev pub text_answer : Result TextRange → TextAnswer
text_answer (Ok x) = record { number = 0; place = 0; start = x.start; length = x.length }
text_answer (Err e) = record { number = number_of e; place = place_of e; start = 0; length = 0 }

-- 1 with the number of code points, or 0 and 0
abbrev pub check_answer : Option ℕ → CheckAnswer
check_answer (Some n) = record { valid = 1; points = n }
check_answer None = record { valid = 0; points = 0 }

-- a call through a handle: with the bytes of the buffer and the handle after it
abbrev pub handle_outcome : ℕ → Handled → RowAnswer × (List ℕ × RowHandle)
handle_outcome n o = (row_answer n o.0, o.1)
