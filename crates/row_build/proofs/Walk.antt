-- Schema and value list walked together: the records that are left of both.
use Rattle.error.specs.Result.{Result}
use Rattle.std.specs.Prelude.{Err, Ok}
use Prim.Native.Nat.{ℕ, zero, suc, ◌+◌, ◌-◌, ◌≤◌, ◌<◌}
use mathlib.Core.Path.{◌≡◌, sym, ap, ◌∙◌, subst}
use mathlib.Core.Bool.{false}
use mathlib.Core.List.{List, [], ◌∷◌}
use native.Mathlib.Numerals.{add-one}
use native.Mathlib.Omega.{arith}
use lib.ListN.{length, get_or, drop, length-drop}
use lib.Seq.{drop-cons}
use Rattle.laws.proofs.Truths.{cases}
use Rattle.row_layout.specs.declared.RowLayout.{RowLayout}
use Rattle.datatype.specs.declared.DataType.{DataType}
use Rattle.datatype.specs.declared.DataType.TheVariants as T
use Rattle.datatype.specs.Types.{precision_of}
use Rattle.datatype.specs.Schema.{column_record_at, column_records}
use Rattle.datatype.specs.Check.{type_at, types_in}
use Rattle.datatype.proofs.Records.{few-digits}
use Rattle.datatype.proofs.Walk.{First, none_left, some_left, not_refused, first_left}
use Rattle.value.specs.declared.DataValue.{DataValue}
use Rattle.value.specs.declared.DataValue.TheVariants.{Null}
use Rattle.value_list.specs.Lists.{records as valueRecords, values_of}
use Rattle.value_list.proofs.Lists.{First as FirstValue, records_first}
use Rattle.record_slot.specs.InnerSteps.{Given, Readable, ReadAt, value_in}
use Rattle.row_build.specs.InnerSteps.{values_in, Buildable}

-- value i of a list
abbrev pub value_at : List DataValue → ℕ → DataValue
value_at vs i = get_or vs i Null

-- ---- the schema: before column i, its records from a place on

pub record Columns (s : List ℕ) (i at : ℕ) : Type 0 where
  pub within : i ≤ length (types_in s)
  pub columns : column_records (256 - i) s at ≡ Ok (drop i (types_in s))

module _ {s : List ℕ} {i at : ℕ} (w : Columns s i at) (h : i < length (types_in s)) where
  abbrev types : List DataType
  types = types_in s

  pub column_there : at < length s
  column_there =
      cases at (length s) (λ k. k)
      (λ k. let none : length (drop i types) ≡ 0 = ap length (none_left s at (256 - i) w.columns k) in
      let gone = rw length-drop at none in
      absurd (omega arith))

  few : i < 256
  few = omega (arith, some_left s at (256 - i) w.columns column_there)

  module _ {t : DataType} {next : ℕ} (e : column_record_at s at ≡ Ok (t, next)) where
    first : First (256 - (i + 1)) s next t (drop i types)
    first = first_left s at (256 - i) w.columns column_there (256 - (i + 1)) (omega (arith, few)) e

    split : t ∷ first.tail ≡ type_at types i ∷ drop (i + 1) types
    split = sym first.split ∙ rw (add-one i) (drop-cons types i (T.Varchar false 0) h)

    pub type_there : t ≡ type_at types i
    type_there = ap (λ (us : List DataType). get_or us 0 (T.Varchar false 0)) split

    pub columns-next : Columns s (i + 1) next
    columns-next = record { within = omega arith; columns = first.ahead ∙ ap Ok (ap (λ (us : List DataType). drop 1 us) split) }

-- ---- schema and list: before column i, the records of both from two places on

pub record Together (s list : List ℕ) (i at from : ℕ) : Type 0 where
  pub side : Columns s i at
  pub fuel : ℕ
  pub given : valueRecords fuel list from ≡ Ok (drop i (values_in list))

pub together-start : {s : List ℕ} {l : RowLayout} {list area : List ℕ} → Buildable s l list area → Together s list 0 0 0
unfolding values_of
together-start {s} {l} {list} b = record { side = record { within = omega arith; columns = b.accepted.schema }; fuel = length list; given = b.taken }

abbrev next_in : Result (DataValue × ℕ) → ℕ
next_in (Ok (v, next)) = next
next_in (Err e) = 0

abbrev pub IsValue : Result (DataValue × ℕ) → Type 0
IsValue (Ok (v, next)) = Unit {0}
IsValue (Err e) = ⊥

nothing_left : {v : DataValue} {vs : List DataValue} → ◌≡◌ {A = Result (List DataValue)} (Ok []) (Ok (v ∷ vs)) → ⊥
nothing_left p = let z : ◌≡◌ {A = ℕ} 0 1 = cc in omega arith

record Left (list : List ℕ) (from : ℕ) (v : DataValue) (vs : List DataValue) : Type 0 where
  fuel : ℕ
  first : FirstValue fuel list from v vs

some-value : (fuel : ℕ) (list : List ℕ) (from : ℕ) {v : DataValue} {vs : List DataValue} → valueRecords fuel list from ≡ Ok (v ∷ vs) → Left list from v vs
some-value zero list from e = absurd (nothing_left e)
some-value (suc n) list from e = record { fuel = n; first = records_first n list from e }

module _ {s : List ℕ} {l : RowLayout} {list area : List ℕ} (b : Buildable s l list area) {i at from : ℕ} (w : Together s list i at from) (h : i < length (types_in s)) where
  abbrev ts : List DataType
  ts = types_in s

  abbrev vs : List DataValue
  vs = values_in list

  value-left : Left list from (value_at vs i) (drop (suc i) vs)
  value-left = some-value w.fuel list from (w.given ∙ ap Ok (drop-cons vs i Null (rw b.count h)))

  pub readable : Readable s at list from
  readable =
      record {
        column = column_there w.side h;
        type_there = λ e. not_refused s at (256 - i) w.side.columns (column_there w.side h) e;
        value = value-left.first.within;
        value_there = λ e. subst IsValue (sym value-left.first.first ∙ e) tt;
      }

  module _ {g : Given} (r : ReadAt s at list from g) where
    pub type_given : g.ty ≡ type_at ts i
    type_given = type_there w.side h r.type_is

    pub digits-given : precision_of g.ty ≤ 38
    digits-given = few-digits s at r.type_is

    same_record : ◌≡◌ {A = Result (DataValue × ℕ)} (Ok (g.value, g.next-value)) (Ok (value_at vs i, value-left.first.next))
    same_record = sym r.value-is ∙ value-left.first.first

    pub value-given : g.value ≡ value_at vs i
    value-given = ap value_in same_record

    pub types_split : drop i ts ≡ g.ty ∷ drop (i + 1) ts
    types_split = rw (type_given, add-one i) (drop-cons ts i (T.Varchar false 0) h)

    pub values-split : drop i vs ≡ g.value ∷ drop (i + 1) vs
    values-split = rw (value-given, add-one i) (drop-cons vs i Null (rw b.count h))

    pub together-next : Together s list (i + 1) g.next_type g.next-value
    together-next =
        record {
          side = columns-next w.side h r.type_is;
          fuel = value-left.fuel;
          given = ap (valueRecords value-left.fuel list) (ap next_in same_record) ∙ value-left.first.rest ∙ ap (λ (k : ℕ). Ok (drop k vs)) (sym (add-one i));
        }
