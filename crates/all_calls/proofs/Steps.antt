-- What holds of either way that a call goes on.
use Rattle.std.specs.Prelude.{Err, Ok}
use Prim.Native.Nat.{ℕ}
use mathlib.Core.Path.{◌≡◌, refl, ap, ◌∙◌}
use mathlib.Core.Bool.{Bool}
use mathlib.Core.List.{List, []}
use Rattle.error.specs.declared.Refusal.{Refusal}
use Rattle.error.specs.Result.{Result, on_result}
use Rattle.datatype.specs.declared.DataType.{DataType}
use Rattle.datatype.specs.Schema.{Parsed, schema_of}
use Rattle.datatype.specs.Check.{types_in}
use Rattle.datatype.specs.InnerCheck.{checked_schema}
use Rattle.datatype.proofs.Accept.{on_good}
use Rattle.row_column.specs.Frame.{on_frame}

pub by_result : {A B : Type 0} (P : B → Type 0) (q : Result A) {bad : Refusal → B} {f : A → B}
    → ((e : Refusal) → P (bad e)) → ((x : A) → q ≡ Ok x → P (f x)) → P (on_result q bad f)
by_result P (Ok x) g h = h x refl
by_result P (Err e) g h = g e

pub by_frame : {B : Type 0} (P : B → Type 0) (q : Result Bool) {bad : Refusal → B} {f : Bool → B}
    → ((e : Refusal) → P (bad e)) → ((p : Bool) → q ≡ Ok p → P (f p)) → P (on_frame q bad f)
by_frame P (Ok p) g h = h p refl
by_frame P (Err e) g h = g e

-- the columns of a schema that is good for rows of a sort
pub types_in_lem : (k : Bool) (s : List ℕ) {ts : List DataType} → schema_of k s ≡ Ok ts → types_in s ≡ ts
types_in_lem k s e =
    on_good k s (ap (checked_schema k) e) (λ x. []) (λ us. us) ∙ ap (λ (q : Parsed). on_result q (λ x. []) (λ us. us)) e
