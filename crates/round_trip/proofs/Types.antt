-- What holds of the type of every column of an accepted schema: at most 38 digits, and a scale that is a byte.
use Rattle.error.specs.Result.{Result}
use Rattle.std.specs.Prelude.{Err, Ok}
use Prim.Native.Nat.{ℕ, zero, suc, ◌+◌, ◌≤◌, ◌<◌}
use mathlib.Core.Path.{◌≡◌, refl, ap}
use mathlib.Core.Bool.{Bool, true, false, cond, ◌&&◌}
use mathlib.Core.List.{List, ◌∷◌}
use native.Mathlib.Omega.{arith}
use borrow.Author.Tests.{leb-true}
use lib.Dec.{leb, ltb}
use lib.ListN.{length, get_or, take, drop}
use Rattle.error.specs.declared.Refusal.TheVariants.{BadRecord, BadSchema}
use Rattle.laws.specs.Bytes.{from_le}
use Rattle.laws.proofs.Truths.{and_left, and_right, by_cond, cases}
use Rattle.datatype.specs.declared.DataType.{DataType}
use Rattle.datatype.specs.Types.{precision_of, scale_of}
use Rattle.datatype.specs.Schema.{Kind, unknown, plain, sized, digits, column_kind, good_digits, column_record_of, column_record_at, column_records, schema_of}
use Rattle.datatype.specs.Check.{type_at}
use Rattle.datatype.proofs.Records.{few-digits}
use Rattle.datatype.proofs.Walk.{none_left, some_left, not_refused, first_left}
use Rattle.row_build.proofs.Schemas.{schema-records}

-- ---- one record: "scale above precision" gives 2

data Scaled : Kind → Type 0 where
  none : Scaled unknown
  plainly : {t : DataType} → scale_of t ≡ 0 → Scaled (plain t)
  sizedly : {t : ℕ → DataType} → ((n : ℕ) → scale_of (t n) ≡ 0) → Scaled (sized t)
  given : {t : ℕ → ℕ → DataType} → ((p s : ℕ) → scale_of (t p s) ≡ s) → Scaled (digits t)

chosen : (t : Bool) (x y : Kind) → Scaled x → Scaled y → Scaled (cond t x y)
chosen true x y p q = p
chosen false x y p q = q

same_scale : (p s : ℕ) → s ≡ s
same_scale p s = refl

no_scale : (n : ℕ) → ◌≡◌ {A = ℕ} 0 0
no_scale n = refl

scale_of_lem : (k : ℕ) → Scaled (column_kind k)
scale_of_lem k = search (chosen, none, plainly, sizedly, given, same_scale, no_scale) depth 18

abbrev SmallScale : Result (DataType × ℕ) → Type 0
SmallScale (Ok (t, next)) = scale_of t ≤ 38
SmallScale (Err r) = Unit {0}

small_of : {q : Kind} → Scaled q → (s : List ℕ) (at : ℕ) → SmallScale (column_record_of q s at)
small_of none s at = tt
small_of (plainly e) s at = rw e (omega arith)
small_of (sizedly {t} e) s at =
    by_cond SmallScale (ltb (length s) (at + 3)) (Err (BadRecord at)) _ (λ f. tt)
    (λ f. rw (e (from_le (take 2 (drop (at + 1) s)))) (omega arith))
small_of (given {t} e) s at =
    let p : ℕ = get_or s (at + 1) 0 in
    let z : ℕ = get_or s (at + 2) 0 in
    by_cond SmallScale (ltb (length s) (at + 3)) (Err (BadRecord at)) _ (λ f. tt)
    (λ f. by_cond SmallScale (good_digits p z) (Ok ((t p z), (at + 3))) (Err (BadSchema at))
    (λ g.
    let few = leb-true p 38 (and_right (leb 1 p) (leb p 38) (and_left (leb 1 p && leb p 38) (leb z p) g)) in
    let under = leb-true z p (and_right (leb 1 p && leb p 38) (leb z p) g) in
    rw (e p z) (omega arith)) (λ g. tt))

small-scale : (s : List ℕ) (at : ℕ) {t : DataType} {next : ℕ} → column_record_at s at ≡ Ok (t, next) → scale_of t ≤ 38
small-scale s at e = rw e at (small_of (scale_of_lem (get_or s at 0)) s at)

-- ---- every column

module _ (P : DataType → Type 0) (s : List ℕ)
    (holds : (at : ℕ) (t : DataType) (next : ℕ) → column_record_at s at ≡ Ok (t, next) → P t) where
  first_or : {t : DataType} {us : List DataType} → P t → ((i : ℕ) → i < length us → P (type_at us i))
      → (ts : List DataType) → ts ≡ t ∷ us → (i : ℕ) → i < length ts → P (type_at ts i)
  first_or p f ts e zero h = rw e p
  first_or p f ts e (suc i) h = rw e (f i (omega (arith, ap length e)))

  each : (n at : ℕ) (ts : List DataType) → column_records n s at ≡ Ok ts → (i : ℕ) → i < length ts → P (type_at ts i)
  each zero at ts e i h =
      cases at (length s) (λ k. absurd (omega (arith, some_left s at 0 e k)))
      (λ k. absurd (omega (arith, ap length (none_left s at 0 e k))))
  each (suc n) at ts e i h =
      cases at (length s) (λ k. of_record (each n) (column_record_at s at) refl k)
      (λ k. absurd (omega (arith, ap length (none_left s at (suc n) e k))))
    where
      of_record : ((next : ℕ) (us : List DataType) → column_records n s next ≡ Ok us → (j : ℕ) → j < length us
          → P (type_at us j))
          → (q : Result (DataType × ℕ)) → column_record_at s at ≡ q → at < length s → P (type_at ts i)
      of_record rest (Err u) f k = absurd (not_refused s at (suc n) e k f)
      of_record rest (Ok (t, next)) f k =
          let p = first_left s at (suc n) e k n refl f in
          first_or (holds at t next f) (rest next p.tail p.ahead) ts p.split i h

module _ (sort : Bool) (s : List ℕ) {ts : List DataType} (e : schema_of sort s ≡ Ok ts) (i : ℕ)
    (h : i < length ts) where
  pub column-digits : precision_of (type_at ts i) ≤ 38
  column-digits = each (λ t. precision_of t ≤ 38) s (λ at t next f. few-digits s at f) 256 0 ts
      (schema-records sort s e) i h

  pub column-scale : scale_of (type_at ts i) ≤ 38
  column-scale = each (λ t. scale_of t ≤ 38) s (λ at t next f. small-scale s at f) 256 0 ts
      (schema-records sort s e) i h
