-- What is known of a row whose header is good, and how a call goes on behind its check.
use Rattle.error.specs.Result.{Result}
use Rattle.std.specs.Prelude.{Err, Ok}
use Prim.Native.Nat.{ℕ, ◌%◌, ◌≤◌}
use mathlib.Core.Path.{◌≡◌, refl, sym, ap, ◌∙◌}
use mathlib.Core.Bool.{Bool}
use mathlib.Core.List.{List}
use borrow.Author.Tests.{ltb-false}
use lib.Dec.{eqb, ltb}
use lib.ListN.{length}
use Rattle.error.specs.declared.Refusal.{Refusal}
use Rattle.error.specs.declared.Refusal.TheVariants.{RowTooShort, RowTooLong, WrongColumnCount, WrongVarlenCount}
use Rattle.laws.proofs.Truths.{by_cond}
use Rattle.row_format.specs.Places.{row_limit}
use Rattle.row_format.specs.Row.{least_mark}
use Rattle.row_layout.specs.declared.RowLayout.{RowLayout}
use Rattle.row_layout.specs.InnerLayout.{minimum_of}
use Rattle.datatype.specs.declared.DataType.{DataType}
use Rattle.datatype.specs.Check.{layout_for}
use Rattle.datatype.specs.InnerCheck.{Accepted}
use Rattle.row_format.specs.Header.{column_count, varlen_field, is_packed}
use Rattle.row_column.specs.Frame.{frame_with, frame_of, on_frame}
use Rattle.row_column.specs.InnerWalk.{walked_frame, Framed}
use Rattle.row_column.proofs.Walk.{frame_walked}

pub record Fine (k : Bool) (least : Bool → ℕ) (r : List ℕ) (p : Bool) : Type 0 where
  pub short : length r ≤ row_limit k
  pub flag : is_packed r ≡ p
  pub long : least p ≤ length r

abbrev IfGood : Bool → (Bool → ℕ) → List ℕ → Result Bool → Type 0
IfGood k least r (Ok p) = Fine k least r p
IfGood k least r (Err e) = Unit {0}

if_good : (k : Bool) (n v : ℕ) (least : Bool → ℕ) (r : List ℕ) → IfGood k least r (frame_with k n v least r)
if_good k n v least r =
    let P = IfGood k least r in
    by_cond P (ltb (row_limit k) (length r)) (Err RowTooLong) _ (λ a. tt)
    (λ a. by_cond P (ltb (length r) 4) (Err RowTooShort) _ (λ b. tt)
    (λ b. by_cond P (eqb (column_count r) n) _ (Err WrongColumnCount)
    (λ c. by_cond P (eqb (varlen_field r % least_mark k) v) _ (Err WrongVarlenCount)
    (λ d. by_cond P (ltb (length r) (least (is_packed r))) (Err RowTooShort) (Ok (is_packed r)) (λ e. tt)
    (λ e. record {
      short = ltb-false (row_limit k) (length r) a;
      flag = refl;
      long = ltb-false (length r) (least (is_packed r)) e;
    }))
    (λ d. tt))
    (λ c. tt)))

pub fine : (k : Bool) (n v : ℕ) (least : Bool → ℕ) (r : List ℕ) {p : Bool} → frame_with k n v least r ≡ Ok p
    → Fine k least r p
fine k n v least r e = rw e at (if_good k n v least r)

pub framed : {s : List ℕ} {l : RowLayout} {r : List ℕ} {p : Bool} → Accepted s l → walked_frame l r ≡ Ok p
    → Framed s l p r
framed {s} {l} {r} a e =
    let f = fine l.is_long l.num_columns l.num_varlen_cols (minimum_of l) r e in
    record { accepted = a; long = f.long; short = f.short }

-- calls that go on alike
pub same_good : {A : Type 0} (f : Result Bool) (bad : Refusal → A) {k k' : Bool → A} → ((p : Bool) → f ≡ Ok p → k p ≡ k' p)
    → on_frame f bad k ≡ on_frame f bad k'
same_good (Ok p) bad h = h p refl
same_good (Err e) bad h = refl

-- the call behind a header, where the layout of the columns ts is known as l
module _ {A : Type 0} (ts : List DataType) {l : RowLayout} (r : List ℕ) (e : layout_for l.is_long ts ≡ l)
    (bad : Refusal → A) (k : Bool → A) where
  pub frame_refused : {q : Refusal} → walked_frame l r ≡ Err q → bad q
      ≡ on_frame (frame_of l.is_long ts r) bad k
  frame_refused f = sym (ap (λ (x : Result Bool). on_frame x bad k) (frame_walked ts r e ∙ f))

  pub frame-good : {p : Bool} → walked_frame l r ≡ Ok p → k p ≡ on_frame (frame_of l.is_long ts r) bad k
  frame-good f = sym (ap (λ (x : Result Bool). on_frame x bad k) (frame_walked ts r e ∙ f))
