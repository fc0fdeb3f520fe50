-- The call on two rows that read, each of its own sort: what the columns of both say.
use Rattle.std.specs.Prelude.{Err, Ok}
use Prim.Native.Nat.{ℕ, zero, suc, ◌<◌}
use mathlib.Core.Path.{◌≡◌, refl, ap, ap₂, ◌∙◌}
use mathlib.Core.Bool.{Bool, true}
use mathlib.Core.List.{List, [], ◌∷◌}
use native.Mathlib.Omega.{arith}
use lib.ListN.{length, get_or}
use Rattle.error.specs.declared.Refusal.{Refusal}
use Rattle.error.specs.Result.{on_result}
use Rattle.row_format.specs.Header.{is_long}
use Rattle.datatype.specs.declared.DataType.{DataType}
use Rattle.datatype.specs.Types.{length_of}
use Rattle.datatype.specs.Schema.{Parsed, schema_of}
use Rattle.datatype.specs.Check.{type_at, types_in}
use Rattle.datatype.specs.InnerCheck.{checked_schema}
use Rattle.datatype.proofs.Accept.{on_good}
use Rattle.value.specs.declared.DataValue.{DataValue}
use Rattle.value.specs.declared.DataValue.TheVariants.{Null}
use Rattle.value.specs.Ranges.{text_of}
use Rattle.value_list.specs.Lists.{Values}
use Rattle.value_same.specs.Same.{same_content}
use Rattle.row_same.specs.Rows.{all_columns, same_values, values_read, same_call}
use Rattle.row_same.specs.InnerWalk.{both_read}

-- a row whose mark tells a sort, and what all its columns read as in a row of that sort
pub record ReadsAs (s r : List ℕ) (ts : List DataType) (vs : List DataValue) : Type 0 where
  pub sort : Bool
  pub marked : is_long r ≡ sort
  pub schema-good : schema_of sort s ≡ Ok ts
  pub all_read : all_columns sort ts r ≡ Ok vs

module _ {s r : List ℕ} {ts : List DataType} {vs : List DataValue} (h : ReadsAs s r ts vs) where
  abbrev none : Refusal → List DataType
  none e = []

  abbrev all : List DataType → List DataType
  all us = us

  types_are : types_in s ≡ ts
  types_are =
      on_good h.sort s (ap (checked_schema h.sort) h.schema-good) none all
      ∙ ap (λ (p : Parsed). on_result p none all) h.schema-good

  pub row_read : values_read s r ≡ Ok vs
  row_read =
      ap (λ (k : Bool). on_result (schema_of k s) Err (λ us. all_columns k us r)) h.marked
      ∙ ap (λ (p : Parsed). on_result p Err (λ us. all_columns h.sort us r)) h.schema-good
      ∙ h.all_read

pub rows-read : {s a b : List ℕ} {ts : List DataType} {vs us : List DataValue} → ReadsAs s a ts vs → ReadsAs s b ts us
    → same_call s a b ≡ Ok (same_values ts a vs b us)
rows-read {s} {a} {b} {ts} {vs} {us} h k =
    ap₂ (λ (x y : Values). both_read (types_in s) a x b y) (row_read h) (row_read k)
    ∙ ap (λ (x : List DataType). Ok (same_values x a vs b us)) (types_are h)

-- ---- column by column

module _ (a b : List ℕ) where
  abbrev pub SameAt : List DataType → List DataValue → List DataValue → ℕ → Type 0
  SameAt ts vs us i =
      same_content (length_of (type_at ts i)) (get_or vs i Null) (text_of a (get_or vs i Null)) (get_or us i Null)
      (text_of b (get_or us i Null)) ≡ true

  pub values_same : (ts : List DataType) (vs us : List DataValue) → length vs ≡ length ts → length us ≡ length ts
      → ((i : ℕ) → i < length ts → SameAt ts vs us i) → same_values ts a vs b us ≡ true
  values_same [] vs us m n h = refl
  values_same (t ∷ ts) [] us m n h = absurd (omega arith)
  values_same (t ∷ ts) (v ∷ vs) [] m n h = absurd (omega arith)
  values_same (t ∷ ts) (v ∷ vs) (u ∷ us) m n h =
      rw (h zero (omega arith)) (values_same ts vs us (omega arith) (omega arith) (λ i l. h (suc i) (omega arith)))

-- two rows of any sorts, as a short one and its long twin
pub twins_same : {s a b : List ℕ} {ts : List DataType} {vs us : List DataValue} → ReadsAs s a ts vs → ReadsAs s b ts us
    → length vs ≡ length ts → length us ≡ length ts → ((i : ℕ) → i < length ts → SameAt a b ts vs us i)
    → same_call s a b ≡ Ok true
twins_same {s} {a} {b} {ts} {vs} {us} h k m n same = rows-read h k ∙ ap Ok (values_same a b ts vs us m n same)
