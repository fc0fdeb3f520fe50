-- For the proofs: what reading a slot leaves in a value list for rows of a sort, its record at a place with the code
-- points n of its text, or the refusal 8 of column i.
use Rattle.error.specs.Result.{Result}
use Rattle.value.specs.declared.DataValue.{DataValue}
use Rattle.std.specs.Prelude.{ℕ, ◌+◌, Bool, cond, List, length, Err, None, Ok, Option, Some}
use Rattle.std.proofs.lemmas.List.Edits.{sets}
use Rattle.error.specs.declared.Refusal.TheVariants.{NoValue as NoValueOf}
use Rattle.text.specs.Check.{points}
use Rattle.text_limit.specs.Limit.{fits_text}
use Rattle.value_list.specs.Records.{range_record, record_of}
use Rattle.stored_form.specs.Read.{whole}

abbrev pub recorded : Bool → List ℕ → ℕ → ℕ → ℕ → Option DataValue → Result (ℕ × ℕ) × List ℕ
recorded k out at i n (Some v) = (Ok ((at + length (record_of k v)), n), sets out at (record_of k v))
recorded k out at i n None = (Err (NoValueOf i), out)

-- the text bs of at most n, which stands at `start` of a row, as a value of kind c
abbrev pub text_recorded : Bool → Bool → ℕ → List ℕ → ℕ → ℕ → ℕ → ℕ → List ℕ → Result (ℕ × ℕ) × List ℕ
text_recorded k byPoints n out at i c start bs =
    let r : List ℕ = range_record k c (whole start bs) in
    cond (fits_text byPoints n bs) (Ok ((at + length r), (points bs)), sets out at r) (Err (NoValueOf i), out)
