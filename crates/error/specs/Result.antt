-- FORMAT 6. A result, or why there is none.
use Rattle.std.specs.Prelude.{Result as WithError, Ok, Err, List, ◌∷◌}
use Rattle.error.specs.declared.Refusal.{Refusal}

abbrev pub Result : Type 0 → Type 0
Result A = WithError A Refusal

-- gone on with the result, or with what refused it
abbrev pub on_result : {A B : Type 0} → Result A → (Refusal → B) → (A → B) → B
on_result (Ok x) bad k = k x
on_result (Err e) bad k = bad e

-- one more in front of a list
abbrev pub before : {A : Type 0} → A → Result (List A) → Result (List A)
before x (Ok xs) = Ok (x ∷ xs)
before x (Err e) = Err e
