-- FORMAT 6. 01, "What each call hands back", for the calls that write: the answer, and the bytes of the lent output
-- afterwards; for two of them also the numbers of a lent list.
use Rattle.error.specs.Result.{Result}
use Rattle.std.specs.Prelude.{cond, ◌||◌, List, ℕ, ltb, length, Err, Ok}
use Rattle.std.proofs.lemmas.List.Edits.{sets}
use Rattle.error.specs.declared.Refusal.{Refusal}
use Rattle.error.specs.declared.Refusal.TheVariants.{NoRoom}

abbrev pub Outcome : Type 0
Outcome = Result ℕ × List ℕ

-- "A refusal changes no lent byte."
abbrev pub unchanged : List ℕ → Refusal → Outcome
unchanged out e = (Err e, out)

-- 14: "lent output shorter than the result". "An output's bytes past the result are as before."
abbrev pub placed : List ℕ → List ℕ → Outcome
placed out x = cond (ltb (length out) (length x)) (unchanged out NoRoom) (Ok (length x), sets out 0 x)

-- ---- with a list of counts

abbrev pub Counted : Type 0
Counted = Result ℕ × (List ℕ × List ℕ)

abbrev pub unchanged_both : List ℕ → List ℕ → Refusal → Counted
unchanged_both out counts e = (Err e, (out, counts))

-- 02, request 1: "a list of fewer numbers than columns gives 14": x goes to the output, and ns, a number for each
-- column, to the list, whose other numbers are as before
abbrev pub placed_both : List ℕ → List ℕ → List ℕ → List ℕ → Counted
placed_both out counts x ns =
    cond (ltb (length out) (length x) || ltb (length counts) (length ns)) (unchanged_both out counts NoRoom)
    (Ok (length x), (sets out 0 x, sets counts 0 ns))
