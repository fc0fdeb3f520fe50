-- The premises of the statements can be met: an example, by computation.
use Rattle.std.specs.Prelude.{Ok}
use Prim.Native.Nat.{ℕ, zero, suc, ◌<◌}
use mathlib.Core.Bool.{Bool, true, false}
use mathlib.Core.List.{List, [], ◌∷◌}
use mathlib.Core.Path.{◌≡◌, refl, subst}
use lib.ListN.{length, replicate}
use native.Mathlib.Omega.{arith}
use Rattle.laws.proofs.Bytes.{Below, AllBytes}
use Rattle.row_format.specs.Table.{lay, range_end}
use Rattle.row_format.specs.Header.{is_long}
use Rattle.row_format.specs.Row.{header, row_with}
use Rattle.datatype.specs.declared.DataType.{DataType}
use Rattle.datatype.specs.declared.DataType.TheVariants as T
use Rattle.datatype.specs.Schema.{schema_of}
use Rattle.value_list.specs.Lists.{values_of}
use Rattle.text.specs.Rfc3629.{octets}
use Rattle.row_decode.specs.Read.{is_wanted}
use Rattle.row_build.specs.Built.{Built}
use Rattle.row_build.proofs.Built.{built}
use Rattle.round_trip.specs.Same.{FullRead}
use Rattle.round_trip.specs.Layouts.{AllAlike, same, varchars, none, more}
use Rattle.round_trip.specs.Examples.{S, values, text, short2, long2, lent, Examples}
use Rattle.round_trip.proofs.Sorts.{same-columns}

-- numbers that are written out are bytes
written-bytes : (bs : List ℕ) → Below 256 bs → AllBytes bs
written-bytes [] b k = record { fits = omega arith }
written-bytes (x ∷ bs) b zero = record { fits = b.0 }
written-bytes (x ∷ bs) b (suc k) = written-bytes bs b.1 k

-- the columns of S, whose Varchar counts code points or bytes
columns_s : Bool → List DataType
columns_s points = T.Int ∷ T.Varchar points 5 ∷ T.SmallInt ∷ []

-- the builds, which answer Done
short-built : Built false (S 11) values text (lent 15) 15 short2
unfolding schema_of values_of row_with lay header octets
short-built =
    (built false (S 11) values text (lent 15) (replicate 3 7) 15 short2 (0 ∷ 2 ∷ 0 ∷ []) refl).built

long-built : Built true (S 11) values text (lent 17) 17 long2
unfolding schema_of values_of row_with lay header octets
long-built =
    (built true (S 11) values text (lent 17) (replicate 3 7) 17 long2 (0 ∷ 2 ∷ 0 ∷ []) refl).built

characters-built : Built false (S 16) values text (lent 15) 15 short2
unfolding schema_of values_of row_with lay header octets
characters-built =
    (built false (S 16) values text (lent 15) (replicate 3 7) 15 short2 (0 ∷ 2 ∷ 0 ∷ []) refl).built

columns-alike : AllAlike short-built.columns characters-built.columns
unfolding schema_of columns_s
columns-alike =
    subst (λ (ts : List DataType). AllAlike ts characters-built.columns)
    (same-columns false false (S 11) refl short-built.schema-good)
    (subst (AllAlike (columns_s false)) (same-columns false false (S 16) refl characters-built.schema-good)
    (more (same T.Int) (more (varchars false true 5 5) (more (same T.SmallInt) none))))

-- all columns of S are wanted
abbrev all : List ℕ
all = 0 ∷ 1 ∷ 2 ∷ []

three-wanted : (i : ℕ) → i < 3 → is_wanted all i ≡ true
three-wanted zero h = refl
three-wanted (suc zero) h = refl
three-wanted (suc (suc zero)) h = refl
three-wanted (suc (suc (suc i))) h = absurd (omega arith)

all_wanted : (sort : Bool) (ts : List DataType) → schema_of sort (S 11) ≡ Ok ts
    → (i : ℕ) → i < length ts → is_wanted all i ≡ true
unfolding schema_of
all_wanted sort ts good i h =
    three-wanted i
    (subst (λ (us : List DataType). i < length us) (same-columns sort false (S 11) good refl) h)

abbrev short-list : List ℕ
short-list = 2 ∷ 1 ∷ 0 ∷ 0 ∷ 0 ∷ 9 ∷ 0x0D ∷ 0 ∷ 2 ∷ 0 ∷ 0 ∷ []

abbrev short_full : FullRead (S 11) short2
unfolding schema_of is_long range_end octets
short_full =
    record {
      wanted = all;
      all = all_wanted false;
      out = lent 11;
      counts = replicate 3 7;
      size = 11;
      after = short-list;
      numbers = 0 ∷ 2 ∷ 0 ∷ [];
      done = refl;
    }

abbrev long_full : FullRead (S 11) long2
unfolding schema_of is_long range_end octets
long_full =
    record {
      wanted = all;
      all = all_wanted true;
      out = lent 15;
      counts = replicate 3 7;
      size = 15;
      after = 2 ∷ 1 ∷ 0 ∷ 0 ∷ 0 ∷ 0x12 ∷ 0x0F ∷ 0 ∷ 0 ∷ 0 ∷ 2 ∷ 0 ∷ 0 ∷ 0 ∷ 0 ∷ [];
      numbers = 0 ∷ 2 ∷ 0 ∷ [];
      done = refl;
    }

pub examples : Examples
unfolding schema_of values_of row_with lay header is_long range_end octets
examples =
    record {
      short = short-built;
      list-bytes = written-bytes values (omega arith);
      long = long-built;
      characters = characters-built;
      alike = columns-alike;
      short-read = short_full;
      long-read = long_full;
      row-bytes = written-bytes short2 (omega arith);
      rebuilt = refl;
      part = refl;
    }
