-- FORMAT 10.4. 02, request 2: "ordered by platform bytes, then arrival, then input order, null first".
use Rattle.std.specs.Prelude.{ℕ, Bool, true, false, cond, List, [], ◌∷◌, eqb, ltb}
use Rattle.std.proofs.Math.Option.{Option, none, some}
use Rattle.occupation.specs.Occupation.{Occupation}

-- by the first bytes that differ, where one text ends before the other
abbrev pub bytes_before : List ℕ → List ℕ → Bool
bytes_before [] [] = false
bytes_before [] (y ∷ ys) = true
bytes_before (x ∷ xs) [] = false
bytes_before (x ∷ xs) (y ∷ ys) = cond (ltb x y) true (cond (eqb x y) (bytes_before xs ys) false)

-- "null first"
abbrev pub null_first : {A : Type 0} → (A → A → Bool) → Option A → Option A → Bool
null_first lt none none = false
null_first lt none (some y) = true
null_first lt (some x) none = false
null_first lt (some x) (some y) = lt x y

-- whether a is printed before b wherever it stands in the input; where neither is before the other, the input decides
abbrev pub precedes : Occupation → Occupation → Bool
precedes a b =
    cond (null_first bytes_before a.platform b.platform) true
    (cond (null_first bytes_before b.platform a.platform) false (null_first ltb a.arrival b.arrival))
