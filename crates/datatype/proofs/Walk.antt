-- The walk over a schema's records: the layout of the columns so far, and what the records that are left add to it.
use Rattle.std.specs.Prelude.{Err, Ok}
use Prim.Native.Nat.{ℕ, zero, suc, ◌+◌, ◌-◌, ◌≤◌, ◌<◌}
use mathlib.Core.Path.{◌≡◌, refl, sym, ap, ◌∙◌, subst}
use mathlib.Core.Bool.{Bool, true, false, cond}
use mathlib.Core.List.{List, [], ◌∷◌, map}
use native.Mathlib.Nat.{add-zero}
use native.Mathlib.Omega.{arith}
use borrow.Author.Tests.{lt-ltb, le-ltb}
use lib.Dec.{ltb}
use lib.ListN.{length, length-map}
use Rattle.error.specs.declared.Refusal.{Refusal}
use Rattle.error.specs.declared.Refusal.TheVariants.{BadSchema}
use Rattle.error.specs.Result.{before, Result}
use Rattle.row_format.specs.Places.{through, rank_after, end_after, minimum, offset_width, row_limit}
use Rattle.row_layout.specs.declared.RowLayout.{RowLayout}
use Rattle.row_layout.specs.Layout.{layout_of}
use Rattle.row_layout.specs.InnerLayout.{Bounded, no_columns, of_sort, with_column}
use Rattle.datatype.specs.declared.DataType.{DataType}
use Rattle.datatype.specs.Types.{shape_of}
use Rattle.datatype.specs.Schema.{Parsed, column_records, column_record_at, limited, schema_of}
use Rattle.datatype.specs.Check.{columns_of}
use Rattle.datatype.specs.InnerCheck.{checked_schema, finished}

-- the columns ts after those of l
abbrev pub extended : RowLayout → List DataType → RowLayout
extended l [] = l
extended l (t ∷ ts) = extended (with_column l (shape_of t)) ts

abbrev pub rest : ℕ → RowLayout → Parsed → Result RowLayout
rest len l (Ok ts) = finished len (extended l ts)
rest len l (Err r) = Err r

-- ---- where the walk begins

extended_is : (l : RowLayout) (ts : List DataType) → extended l ts
    ≡ record {
      num_columns = length ts + l.num_columns;
      num_varlen_cols = through rank_after l.num_varlen_cols (map shape_of ts);
      packed_size = through (end_after true) l.packed_size (map shape_of ts);
      padded_size = through (end_after false) l.padded_size (map shape_of ts);
      is_long = l.is_long;
    }
extended_is l [] = let e : 0 + l.num_columns ≡ l.num_columns = omega arith in rw e
extended_is l (t ∷ ts) =
    let e : length ts + (l.num_columns + 1) ≡ suc (length ts) + l.num_columns = omega arith in
    extended_is (with_column l (shape_of t)) ts ∙ rw e

pub extended_all : (k : Bool) (ts : List DataType) → extended (of_sort k no_columns) ts ≡ layout_of k (map shape_of ts)
extended_all k ts = extended_is (of_sort k no_columns) ts ∙ rw (add-zero, length-map ts shape_of)

checked-cond : (k t : Bool) (r : Refusal) (ts : List DataType) → checked_schema k (cond t (Err r) (Ok ts)) ≡ cond t (Err r) (Ok (layout_of k (map shape_of ts)))
checked-cond k true r ts = refl
checked-cond k false r ts = refl

rest_parsed : (k : Bool) (len : ℕ) (p : Parsed) → rest len (of_sort k no_columns) p ≡ checked_schema k (limited k len p)
rest_parsed k len (Ok ts) = ap (finished len) (extended_all k ts) ∙ sym (checked-cond k (ltb (row_limit k) (minimum (offset_width k) false (map shape_of ts))) (BadSchema len) ts)
rest_parsed k len (Err r) = refl

rest_before : (len : ℕ) (l : RowLayout) (t : DataType) (p : Parsed) → rest len l (before t p) ≡ rest len (with_column l (shape_of t)) p
rest_before len l t (Ok ts) = refl
rest_before len l t (Err r) = refl

-- ---- the walk at a place of the schema

pub record Walking (k : Bool) (s : List ℕ) (l : RowLayout) (at : ℕ) : Type 0 where
  pub bounded : Bounded l
  pub whole : rest (length s) l (column_records (256 - l.num_columns) s at) ≡ checked_schema k (schema_of k s)

pub walk_start : (k : Bool) (s : List ℕ) → Walking k s (of_sort k no_columns) 0
unfolding schema_of
walk_start k s = record { bounded = record { few = omega arith; ranked = omega arith; tight = omega arith; wide = omega arith }; whole = rest_parsed k (length s) (column_records 256 s 0) }

module _ {k : Bool} {s : List ℕ} {l : RowLayout} {at : ℕ} (w : Walking k s l at) where
  -- no record more
  rest_none : (n : ℕ) → length s ≤ at → rest (length s) l (column_records n s at) ≡ finished (length s) l
  rest_none zero h = rw (le-ltb _ _ h)
  rest_none (suc n) h = rw (le-ltb _ _ h)

  pub walk_end : length s ≤ at → finished (length s) l ≡ checked_schema k (schema_of k s)
  walk_end h = sym (rest_none (256 - l.num_columns) h) ∙ w.whole

  -- a 257th
  pub walk_over : at < length s → l.num_columns ≡ 256 → Err (BadSchema at) ≡ checked_schema k (schema_of k s)
  walk_over h e =
      let z : 256 - l.num_columns ≡ 0 = omega arith in
      sym (rw (lt-ltb at (length s) h)) ∙ rw z at w.whole

  module _ (h : at < length s) (few : l.num_columns ≡ 256 → ⊥) where
    left : 256 - l.num_columns ≡ suc (256 - (l.num_columns + 1))
    left = omega (arith, w.bounded)

    -- one that is bad
    pub walk_bad : {r : Refusal} → column_record_at s at ≡ Err r → Err r ≡ checked_schema k (schema_of k s)
    walk_bad e = sym (rw (lt-ltb at (length s) h, e)) ∙ rw left at w.whole

    -- a column
    pub walk_more : {t : DataType} {next : ℕ} → column_record_at s at ≡ Ok (t, next) → Bounded (with_column l (shape_of t)) → Walking k s (with_column l (shape_of t)) next
    walk_more {t} {next} e b =
        record { bounded = b; whole = sym (rw (lt-ltb at (length s) h, e) (rest_before (length s) l t (column_records (256 - (l.num_columns + 1)) s next))) ∙ rw left at w.whole }

-- ---- a schema that was accepted, walked again

no_types : {ts : List DataType} {r : Refusal} → Err r ≡ Ok ts → ⊥
no_types {ts} e = subst (λ (p : Parsed). IsRefused p) e tt
  where
    IsRefused : Parsed → Type 0
    IsRefused (Ok us) = ⊥
    IsRefused (Err q) = Unit {0}

-- the first of the records that are left
pub record First (n : ℕ) (s : List ℕ) (next : ℕ) (t : DataType) (ts : List DataType) : Type 0 where
  pub tail : List DataType
  pub split : ts ≡ t ∷ tail
  pub ahead : column_records n s next ≡ Ok tail

first_of : (n : ℕ) (s : List ℕ) (next : ℕ) (t : DataType) {ts : List DataType} (p : Parsed) → column_records n s next ≡ p → before t p ≡ Ok ts → First n s next t ts
first_of n s next t (Ok us) e f = record { tail = us; split = ap columns_of (sym f); ahead = e }
first_of n s next t (Err r) e f = absurd (no_types f)

module _ (s : List ℕ) (at n : ℕ) {ts : List DataType} (e : column_records n s at ≡ Ok ts) where
  pub none_left : length s ≤ at → ts ≡ []
  none_left h = ap columns_of (sym e ∙ empty n)
    where
      empty : (k : ℕ) → column_records k s at ≡ Ok []
      empty zero = rw (le-ltb at (length s) h)
      empty (suc k) = rw (le-ltb at (length s) h)

  module _ (h : at < length s) where
    pub some_left : 0 < n
    some_left = by_fuel n e
      where
        by_fuel : (k : ℕ) → column_records k s at ≡ Ok ts → 0 < k
        by_fuel zero f = absurd (no_types (rw (lt-ltb at (length s) h) at f))
        by_fuel (suc k) f = omega arith

    pub not_refused : {r : Refusal} → column_record_at s at ≡ Err r → ⊥
    not_refused f = by_fuel n e
      where
        by_fuel : (k : ℕ) → column_records k s at ≡ Ok ts → ⊥
        by_fuel zero g = no_types (rw (lt-ltb at (length s) h) at g)
        by_fuel (suc k) g = no_types (rw (lt-ltb at (length s) h, f) at g)

    pub first_left : {t : DataType} {next : ℕ} (k : ℕ) → n ≡ suc k → column_record_at s at ≡ Ok (t, next) → First k s next t ts
    first_left {t} {next} k f g = first_of k s next t (column_records k s next) refl (sym (rw (f, lt-ltb at (length s) h, g)) ∙ e)
