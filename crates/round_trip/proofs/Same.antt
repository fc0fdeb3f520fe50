-- Same content is reflexive and symmetric on rows that read.
use Rattle.std.specs.Prelude.{Ok}
use Prim.Native.Nat.{ℕ}
use mathlib.Core.Path.{◌≡◌, refl, sym, ap, ap₂, ◌∙◌, subst}
use mathlib.Core.Bool.{Bool, false, cond}
use mathlib.Core.List.{List, [], ◌∷◌}
use lib.ListN.{get_or}
use Rattle.row_format.specs.Header.{is_long}
use Rattle.datatype.specs.declared.DataType.{DataType}
use Rattle.datatype.specs.Types.{length_of}
use Rattle.datatype.specs.Check.{type_at}
use Rattle.value.specs.declared.DataValue.{DataValue}
use Rattle.value.specs.declared.DataValue.TheVariants.{Null}
use Rattle.value.specs.Ranges.{text_of}
use Rattle.value_same.proofs.Equivalence.{same_self, same_sym}
use Rattle.row_same.specs.Rows.{same_values}
use Rattle.row_same.proofs.Read.{ReadsAs, rows-read, twins_same}
use Rattle.round_trip.specs.Same.{FullRead, SameAsItself, SameEitherWay}
use Rattle.round_trip.proofs.Sorts.{same-columns}
use Rattle.round_trip.proofs.ReadAll.{all_of, reads_as}

pub same_itself : {schema r : List ℕ} (q : FullRead schema r) → SameAsItself q
same_itself {schema} {r} q =
    let x = all_of q in
    twins_same (reads_as q) (reads_as q) x.count x.count
    (λ i h. same_self (length_of (type_at x.columns i)) (get_or x.read i Null) (text_of r (get_or x.read i Null)))

values_sym : (a b : List ℕ) (ts : List DataType) (vs us : List DataValue)
    → same_values ts a vs b us ≡ same_values ts b us a vs
values_sym a b [] vs us = refl
values_sym a b (t ∷ ts) [] [] = refl
values_sym a b (t ∷ ts) [] (u ∷ us) = refl
values_sym a b (t ∷ ts) (v ∷ vs) [] = refl
values_sym a b (t ∷ ts) (v ∷ vs) (u ∷ us) =
    ap₂ (λ (x y : Bool). cond x y false) (same_sym (length_of t) v (text_of a v) u (text_of b u))
    (values_sym a b ts vs us)

pub same_either_way : {schema a b : List ℕ} (p : FullRead schema a) (q : FullRead schema b) → SameEitherWay p q
same_either_way {schema} {a} {b} p q =
    let x = all_of p in
    let y = all_of q in
    let ts = same-columns (is_long b) (is_long a) schema y.schema-good x.schema-good in
    let second = subst (λ (us : List DataType). ReadsAs schema b us y.read) ts (reads_as q) in
    rows-read (reads_as p) second ∙ ap Ok (values_sym a b x.columns x.read y.read)
    ∙ sym (rows-read second (reads_as p))
