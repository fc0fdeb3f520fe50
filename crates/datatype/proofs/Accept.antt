-- What is known of a schema that was accepted, and how a call goes on behind its check.
use Rattle.std.specs.Prelude.{Err, Ok}
use Prim.Native.Nat.{ℕ}
use mathlib.Core.Path.{◌≡◌, refl, sym, ap, ◌∙◌, subst}
use mathlib.Core.Bool.{Bool, true, false, cond}
use mathlib.Core.List.{List, map}
use lib.Dec.{ltb}
use lib.ListN.{length}
use Rattle.error.specs.declared.Refusal.{Refusal}
use Rattle.error.specs.declared.Refusal.TheVariants.{BadSchema, NoRoom}
use Rattle.error.specs.Result.{on_result, Result}
use Rattle.row_format.specs.Places.{minimum, offset_width, row_limit}
use Rattle.row_layout.specs.declared.RowLayout.{RowLayout}
use Rattle.row_layout.specs.InnerLayout.{Bounded, no_columns, of_sort}
use Rattle.datatype.specs.declared.DataType.{DataType}
use Rattle.datatype.specs.Types.{shape_of}
use Rattle.datatype.specs.Schema.{Parsed, column_records, limited, schema_of}
use Rattle.datatype.specs.Check.{columns_of, layout_for, types_in}
use Rattle.datatype.specs.InnerCheck.{Accepted, checked_schema}

abbrev IsTypes : Parsed → Type 0
IsTypes (Ok ts) = Unit {0}
IsTypes (Err e) = ⊥

unlimited : (k : Bool) (len : ℕ) (q : Parsed) {ts : List DataType} → limited k len q ≡ Ok ts → q ≡ Ok ts
unlimited k len (Err e) f = f
unlimited k len (Ok us) f = within (ltb (row_limit k) (minimum (offset_width k) false (map shape_of us))) (BadSchema len) (Ok us) f
  where
    within : (t : Bool) (e : Refusal) (p : Parsed) {vs : List DataType} → cond t (Err e) p ≡ Ok vs → p ≡ Ok vs
    within true e p g = absurd (subst IsTypes (sym g) tt)
    within false e p g = g

abbrev layout_in : Result RowLayout → RowLayout
layout_in (Ok l) = l
layout_in (Err e) = no_columns

abbrev reason_in : Result RowLayout → Refusal
reason_in (Ok l) = NoRoom
reason_in (Err e) = e

abbrev IsGood : Result RowLayout → Type 0
IsGood (Ok l) = Unit {0}
IsGood (Err e) = ⊥

good-columns : (k : Bool) (p : Parsed) {l : RowLayout} → checked_schema k p ≡ Ok l → (p ≡ Ok (columns_of p)) × (layout_for k (columns_of p) ≡ l)
good-columns k (Ok ts) e = (refl, ap layout_in e)
good-columns k (Err q) e = absurd (subst IsGood (sym e) tt)

pub on_refused : {A : Type 0} (k : Bool) (p : Parsed) {e : Refusal} (bad : Refusal → A) (f : List DataType → A) → checked_schema k p ≡ Err e → bad e ≡ on_result p bad f
on_refused k (Ok ts) bad f q = absurd (subst IsGood q tt)
on_refused k (Err r) bad f q = ap bad (sym (ap reason_in q))

module _ (k : Bool) (s : List ℕ) {l : RowLayout} (e : checked_schema k (schema_of k s) ≡ Ok l) where
  good : (schema_of k s ≡ Ok (columns_of (schema_of k s))) × (layout_for k (columns_of (schema_of k s)) ≡ l)
  good = good-columns k (schema_of k s) e

  all-records : column_records 256 s 0 ≡ Ok (columns_of (schema_of k s))
  unfolding schema_of
  all-records = unlimited k (length s) (column_records 256 s 0) good.0

  same-columns : types_in s ≡ columns_of (schema_of k s)
  unfolding types_in
  same-columns = ap columns_of all-records

  -- the layout is of the sort that was asked
  pub sort-is : l.is_long ≡ k
  sort-is = sym (ap (λ (m : RowLayout). m.is_long) good.1)

  -- so that the sort may be put in once more, for a caller that knows it: the compiler then does not ask the layout
  pub sort_again : of_sort k l ≡ l
  sort_again = subst (λ (q : Bool). of_sort q l ≡ l) sort-is refl

  pub accepted : Bounded l → Accepted s l
  accepted b = record { schema = all-records ∙ ap Ok (sym same-columns); layout = subst (λ (q : Bool). layout_for q (types_in s) ≡ l) (sym sort-is) (ap (layout_for k) same-columns ∙ good.1); bounded = b }

  pub on_good : {A : Type 0} (bad : Refusal → A) (f : List DataType → A) → f (types_in s) ≡ on_result (schema_of k s) bad f
  on_good bad f = sym (ap (λ (p : Parsed). on_result p bad f) good.0 ∙ ap f (sym same-columns))
