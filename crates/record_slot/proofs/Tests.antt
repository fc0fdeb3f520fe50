-- The cell of a column by the tests on its value.
use Rattle.std.specs.Prelude.{Err, Ok}
use Prim.Native.Nat.{ℕ, ◌+◌, ◌≤◌}
use mathlib.Core.Path.{◌≡◌, refl, sym, ap, ◌∙◌, subst}
use mathlib.Core.Bool.{Bool, true, false, cond}
use mathlib.Core.List.{List}
use mathlib.Core.Option.{none, some}
use native.Mathlib.Omega.{arith}
use lib.ListN.{length, drop, length-drop}
use lib.Seq.{length-take-le}
use Rattle.error.specs.declared.Refusal.{Refusal}
use Rattle.error.specs.declared.Refusal.TheVariants.{WrongKind, Unsuitable}
use Rattle.error.specs.Result.{Result}
use Rattle.row_format.specs.Table.{Cell, bytes}
use Rattle.datatype.specs.declared.DataType.{DataType}
use Rattle.datatype.specs.Types.{size_of, is_varlen}
use Rattle.value.specs.declared.TextRange.{TextRange}
use Rattle.value.specs.declared.DataValue.{DataValue}
use Rattle.value.specs.Kinds.{matches}
use Rattle.value.specs.Ranges.{part, range_of, text_of}
use Rattle.stored_form.specs.Write.{accepted, stored_form}
use Rattle.stored_form.proofs.Lengths.{length-stored, accepted-inside, accepted-suits}
use Rattle.record_slot.specs.Stored.{is_null, cell_in}
use Rattle.record_slot.specs.InnerSteps.{payload_answer}

-- the numbers of equal ranges
pub start_is : {r q : TextRange} → r ≡ q → r.start ≡ q.start
start_is e = ap (λ (x : TextRange). x.start) e

pub length-is : {r q : TextRange} → r ≡ q → r.length ≡ q.length
length-is e = ap (λ (x : TextRange). x.length) e

-- a range of the area
pub length_part : (area : List ℕ) (r : TextRange) → r.start + r.length ≤ length area → length (part area r) ≡ r.length
length_part area r h = length-take-le r.length (drop r.start area) (rw length-drop (omega arith))

-- ---- the stored form of a value that is accepted

module _ (t : DataType) (v : DataValue) (area : List ℕ) (m : matches t v ≡ true) (a : accepted t v area ≡ true) where
  abbrev form : List ℕ
  form = stored_form t v (text_of area v)

  -- in a slot, or as a payload
  pub length-slot : is_varlen t ≡ false → length form ≡ size_of t
  length-slot f = length-stored t v (text_of area v) m (accepted-suits t v area a) ∙ rw f

  pub length-payload : is_varlen t ≡ true → length form ≡ (range_of v).length
  length-payload f = length-stored t v (text_of area v) m (accepted-suits t v area a) ∙ rw (f, length_part area (range_of v) (accepted-inside t v area a))

  pub payload-short : length area ≤ 1048576 → (range_of v).length ≤ 1048576
  payload-short h = omega (arith, accepted-inside t v area a)

-- ---- the four outcomes

module _ (i : ℕ) (t : DataType) (v : DataValue) (area : List ℕ) where
  pub cell_null : is_null v ≡ true → cell_in i t v area ≡ Ok none
  cell_null n = rw n

  module _ (n : is_null v ≡ false) where
    pub cell_wrong : matches t v ≡ false → cell_in i t v area ≡ Err (WrongKind i)
    cell_wrong m = rw (n, m)

    pub cell_unsuited : matches t v ≡ true → accepted t v area ≡ false → cell_in i t v area ≡ Err (Unsuitable i)
    cell_unsuited m a = rw (n, m, a)

    pub cell_stored : matches t v ≡ true → accepted t v area ≡ true → cell_in i t v area ≡ Ok (some (stored_form t v (text_of area v)))
    cell_stored m a = rw (n, m, a)

-- ---- and back: what a cell says of the value

pub data CellIs (t : DataType) (v : DataValue) (area : List ℕ) : Cell → Type 0 where
  null : is_null v ≡ true → CellIs t v area none
  stored : is_null v ≡ false → matches t v ≡ true → accepted t v area ≡ true → CellIs t v area (some (stored_form t v (text_of area v)))

abbrev cell_of : Result Cell → Cell
cell_of (Ok c) = c
cell_of (Err e) = none

abbrev pub IsGood : {A : Type 0} → Result A → Type 0
IsGood (Ok x) = Unit {0}
IsGood (Err e) = ⊥

pub cell_is : (i : ℕ) (t : DataType) (v : DataValue) (area : List ℕ) {c : Cell} → cell_in i t v area ≡ Ok c → CellIs t v area c
cell_is i t v area {c} e = by_null (is_null v) refl
  where
    same : {d : Cell} → cell_in i t v area ≡ Ok d → d ≡ c
    same f = ap cell_of (sym f ∙ e)

    never : {q : Refusal} → cell_in i t v area ≡ Err q → ⊥
    never f = subst IsGood (sym e ∙ f) tt

    by_suited : is_null v ≡ false → matches t v ≡ true → (b : Bool) → accepted t v area ≡ b → CellIs t v area c
    by_suited n m true a = subst (CellIs t v area) (same (cell_stored i t v area n m a)) (stored n m a)
    by_suited n m false a = absurd (never (cell_unsuited i t v area n m a))

    by_kind : is_null v ≡ false → (b : Bool) → matches t v ≡ b → CellIs t v area c
    by_kind n true m = by_suited n m (accepted t v area) refl
    by_kind n false m = absurd (never (cell_wrong i t v area n m))

    by_null : (b : Bool) → is_null v ≡ b → CellIs t v area c
    by_null true n = subst (CellIs t v area) (same (cell_null i t v area n)) (null n)
    by_null false n = by_kind n (matches t v) refl

-- ---- the payload's size

module _ (i : ℕ) (t : DataType) (v : DataValue) (area : List ℕ) where
  pub size_of_lem : {c : Cell} {n : ℕ} → cell_in i t v area ≡ Ok c → n ≡ cond (is_varlen t) (length (bytes c)) 0 → Ok n ≡ payload_answer t (cell_in i t v area)
  size_of_lem e h = rw e (ap Ok h)

  pub size-refused : {e : Refusal} → cell_in i t v area ≡ Err e → Err e ≡ payload_answer t (cell_in i t v area)
  size-refused e = rw e

zero-null : (b : Bool) → ◌≡◌ {A = ℕ} 0 (cond b 0 0)
zero-null true = refl
zero-null false = refl

module _ (i : ℕ) (t : DataType) (v : DataValue) (area : List ℕ) where
  pub size-null : is_null v ≡ true → Ok 0 ≡ payload_answer t (cell_in i t v area)
  size-null n = size_of_lem i t v area (cell_null i t v area n) (zero-null (is_varlen t))

  module _ (n : is_null v ≡ false) (m : matches t v ≡ true) (a : accepted t v area ≡ true) where
    pub size-fixed : is_varlen t ≡ false → Ok 0 ≡ payload_answer t (cell_in i t v area)
    size-fixed f = size_of_lem i t v area (cell_stored i t v area n m a) (rw f)

    pub size-varchar : is_varlen t ≡ true → Ok (range_of v).length ≡ payload_answer t (cell_in i t v area)
    size-varchar f = size_of_lem i t v area (cell_stored i t v area n m a) (rw f (sym (length-payload t v area m a f)))
