-- For the proofs: the check's answer, and values that records can hold.

use Rattle.error.specs.Result.{Result}
use Rattle.value_list.specs.Lists.{Values}
use Rattle.std.specs.Prelude.{List, [], ◌∷◌, Bool, Err, Ok}
use Rattle.value.specs.declared.DataValue.{DataValue}
use Rattle.value_list.specs.Records.{Sized}
use Rattle.value_list.specs.InnerRecords.{Narrow}

-- the check's answer: the values forgotten
abbrev pub answer : Values → Result Unit
answer (Ok vs) = (Ok tt)
answer (Err r) = Err r

-- values that records can hold
abbrev pub AllSized : List DataValue → Type 0
AllSized [] = Unit {0}
AllSized (v ∷ vs) = Sized v × AllSized vs

-- for rows of a sort
abbrev pub AllNarrow : Bool → List DataValue → Type 0
AllNarrow k [] = Unit {0}
AllNarrow k (v ∷ vs) = Narrow k v × AllNarrow k vs
