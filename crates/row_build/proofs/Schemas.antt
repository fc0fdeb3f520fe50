-- What the check of a schema says of its columns.
use Rattle.error.specs.Result.{Result}
use Rattle.std.specs.Prelude.{Err, Ok}
use Prim.Native.Nat.{ℕ, zero, suc, ◌≤◌, ◌<◌}
use mathlib.Core.Path.{◌≡◌, refl, sym, ap, subst}
use mathlib.Core.Bool.{Bool, true, false, cond}
use mathlib.Core.List.{List, [], map}
use native.Mathlib.Omega.{arith}
use borrow.Author.Tests.{ltb-false}
use lib.Dec.{ltb}
use lib.ListN.{length}
use Rattle.error.specs.declared.Refusal.TheVariants.{BadSchema}
use Rattle.laws.proofs.Truths.{cases}
use Rattle.row_format.specs.Places.{minimum, offset_width, row_limit}
use Rattle.row_format.proofs.Sizes.{packed_least}
use Rattle.datatype.specs.declared.DataType.{DataType}
use Rattle.datatype.specs.Types.{shape_of}
use Rattle.datatype.specs.Schema.{Parsed, column_records, limited, schema_of, column_record_at}
use Rattle.datatype.proofs.Again.{all_aligned}
use Rattle.datatype.proofs.Walk.{none_left, some_left, not_refused, first_left}

-- ---- an accepted schema: its rows are within the limit, and its columns are at most 256

abbrev IsTypes : Parsed → Type 0
IsTypes (Ok ts) = Unit {0}
IsTypes (Err e) = ⊥

abbrev types_of : Parsed → List DataType
types_of (Ok ts) = ts
types_of (Err e) = []

record Passed (k : Bool) (q : Parsed) (ts : List DataType) : Type 0 where
  all : q ≡ Ok ts
  padded : minimum (offset_width k) false (map shape_of ts) ≤ row_limit k

passed : (k : Bool) (len : ℕ) (q : Parsed) {ts : List DataType} → limited k len q ≡ Ok ts → Passed k q ts
passed k len (Err e) f = absurd (subst IsTypes (sym f) tt)
passed k len (Ok us) {ts} f = within (ltb (row_limit k) (minimum (offset_width k) false (map shape_of us))) refl f
  where
    within : (t : Bool) → ltb (row_limit k) (minimum (offset_width k) false (map shape_of us)) ≡ t → cond t (Err (BadSchema len)) (Ok us) ≡ Ok ts → Passed k (Ok us) ts
    within true q g = absurd (subst IsTypes (sym g) tt)
    within false q g = subst (Passed k (Ok us)) (ap types_of g) (record { all = refl; padded = ltb-false (row_limit k) (minimum (offset_width k) false (map shape_of us)) q })

-- a record more than the columns behind it
more_types : (m : ℕ) (s : List ℕ) (at : ℕ) (ts : List DataType) (q : Result (DataType × ℕ)) → column_record_at s at ≡ q → at < length s → column_records (suc m) s at ≡ Ok ts
    → ((next : ℕ) (us : List DataType) → column_records m s next ≡ Ok us → length us ≤ m) → length ts ≤ suc m
more_types m s at ts (Err u) f h g rest = absurd (not_refused s at (suc m) g h f)
more_types m s at ts (Ok (t, next)) f h g rest =
    let p = first_left s at (suc m) g h m refl f in
    let k = rest next p.tail p.ahead in
    rw p.split (omega (arith, k))

few_types : (n : ℕ) (s : List ℕ) (at : ℕ) (ts : List DataType) → column_records n s at ≡ Ok ts → length ts ≤ n
few_types zero s at ts e = cases at (length s) (λ h. absurd (omega (arith, some_left s at 0 e h))) (λ h. rw (none_left s at 0 e h) (omega arith))
few_types (suc m) s at ts e = cases at (length s) (λ h. more_types m s at ts (column_record_at s at) refl h e (few_types m s)) (λ h. rw (none_left s at (suc m) e h) (omega arith))

module _ (k : Bool) (s : List ℕ) {ts : List DataType} (f : schema_of k s ≡ Ok ts) where
  of_schema : Passed k (column_records 256 s 0) ts
  unfolding schema_of
  of_schema = passed k (length s) (column_records 256 s 0) f

  pub schema-records : column_records 256 s 0 ≡ Ok ts
  schema-records = of_schema.all

  pub schema-minimum : minimum (offset_width k) true (map shape_of ts) ≤ row_limit k
  schema-minimum = omega (arith, of_schema.padded, packed_least (offset_width k) (all_aligned ts))

  pub schema-few : length ts ≤ 256
  schema-few = few_types 256 s 0 ts schema-records
