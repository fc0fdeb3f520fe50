-- For the proofs: what the check hands back.
use Rattle.std.specs.Prelude.{ℕ, List, length, Err, Ok}
use Rattle.error.specs.Result.{Result}

abbrev pub list_checked : Result (List (List ℕ)) → Result ℕ
list_checked (Ok rs) = Ok (length rs)
list_checked (Err e) = Err e
