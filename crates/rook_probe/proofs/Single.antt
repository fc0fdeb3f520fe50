-- One type, one value: what the code knows of them where it calls on.
use Rattle.std.specs.Prelude.{⊤, Err, MatchOption, None, Ok, Option, Some}
use Prim.Native.Nat.{ℕ, ◌≤◌}
use mathlib.Core.Path.{◌≡◌, ◌∙◌, refl, ap, subst}
use Rattle.std.specs.Result.{result_ok}
use Rattle.error.specs.Result.{Result}
use mathlib.Core.Bool.{true, false}
use mathlib.Core.List.{List}
use native.Mathlib.Omega.{arith}
use borrow.Author.Tests.{eqb-true}
use lib.ListN.{length, drop, length-drop}
use lib.Seq.{length-take-le}
use Rattle.error.specs.declared.Refusal.{Refusal}
use Rattle.datatype.specs.declared.DataType.{DataType}
use Rattle.datatype.specs.Types.{size_of, is_varlen}
use Rattle.value.specs.declared.DataValue.{DataValue}
use Rattle.value.specs.Kinds.{matches}
use Rattle.value.specs.Ranges.{range_of, text_of}
use Rattle.value_list.specs.Records.{record_at, NarrowRange}
use Rattle.value_list.specs.Lists.{checked}
use Rattle.value_list.proofs.Records.{range_narrow}
use Rattle.value_list.proofs.Sole.{sole_value}
use Rattle.value_list.specs.InnerRecords.{Narrow}
use Rattle.value_list.specs.InnerLists.{answer}
use Rattle.stored_form.specs.Write.{accepted, stored_form}
use Rattle.stored_form.specs.Read.{read_slot}
use Rattle.stored_form.proofs.Lengths.{length-stored, accepted-inside, accepted-suits}
use Rattle.stored_form.proofs.Within.{slot-range}
use Rattle.rook_probe.specs.Values.{only_value, form_length, fits_slot}

-- ---- a list's one value

pub some_ok : {A : Type 0} {r : Result A} {x : A} → result_ok r ≡ Some x → r ≡ Ok x
some_ok {A} {r = Ok y} {x} e = ap Ok (subst (λ (o : Option A). MatchOption o ⊤ (λ z. y ≡ z)) e refl)
some_ok {r = Err d} e = absurd (subst (λ o. MatchOption o ⊤ (λ _. ⊥)) e tt)

pub none_refused : {A : Type 0} {r : Result A} → result_ok r ≡ None → (d : Refusal) × (r ≡ Err d)
none_refused {r = Ok y} e = absurd (subst (λ o. MatchOption o ⊥ (λ _. ⊤)) e tt)
none_refused {r = Err d} e = (d, refl)

module _ (area : ℕ) (s : List ℕ) where
  pub one_value_lem : (Ok tt) ≡ answer (checked false 1 area s) → (v : DataValue) (next : ℕ) → record_at s 0 ≡ Ok (v, next) → Some v ≡ only_value (checked false 1 area s)
  one_value_lem g v next e = rw (sole_value false area s g v next e)

-- ---- a stored form's length

pub form-length : (t : DataType) (v : DataValue) (area : List ℕ) → matches t v ≡ true → accepted t v area ≡ true → length (stored_form t v (text_of area v)) ≡ form_length t v
form-length t v area m e =
    let h = accepted-inside t v area e in
    let text : length (text_of area v) ≡ (range_of v).length = length-take-le (range_of v).length (drop (range_of v).start area) (rw (length-drop (range_of v).start area) (omega arith)) in
    length-stored t v (text_of area v) m (accepted-suits t v area e) ∙ rw text

-- ---- a value that was read

pub read_narrow : (start : ℕ) (bs : List ℕ) → start ≤ 65535 → length bs ≤ 65535 → (t : DataType) {v : DataValue} → read_slot t start bs ≡ Some v → Narrow false v
read_narrow start bs h k t {v} e =
    range_narrow false v (rw e at (slot-range (NarrowRange 2) (record { start = omega arith; size = omega arith }) start bs (record { start = omega arith; size = omega arith }) t))

pub slot-size : (t : DataType) (n : ℕ) → fits_slot t n ≡ true → is_varlen t ≡ false → n ≡ size_of t
slot-size t n e f = eqb-true n (size_of t) (rw f at e)
