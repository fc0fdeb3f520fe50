-- A read of all columns that answered Ok: the values of the columns, and the list that it left.
use Rattle.std.specs.Prelude.{Err, Ok}
use Prim.Native.Nat.{ℕ, zero, suc, ◌+◌, ◌<◌}
use mathlib.Core.Path.{◌≡◌, refl, sym, ap, ap₂, ◌∙◌, subst}
use mathlib.Core.Bool.{Bool, true}
use mathlib.Core.List.{List, ◌∷◌, map}
use native.Mathlib.Nat.{add-zero}
use native.Mathlib.Omega.{arith}
use lib.ListN.{length, get_or}
use Rattle.row_format.specs.Places.{offset_width}
use Rattle.row_format.specs.Header.{is_long}
use Rattle.error.specs.declared.Refusal.{Refusal}
use Rattle.error.specs.Answer.{unchanged_both}
use Rattle.error.specs.Result.{on_result, Result}
use Rattle.datatype.specs.declared.DataType.{DataType}
use Rattle.datatype.specs.Schema.{Parsed, schema_of}
use Rattle.value.specs.declared.DataValue.{DataValue}
use Rattle.value.specs.declared.DataValue.TheVariants.{Null}
use Rattle.value_list.specs.Lists.{Values, list_of}
use Rattle.stored_form.specs.Points.{points_in}
use Rattle.row_column.specs.Frame.{frame_of, on_frame}
use Rattle.row_column.specs.Column.{column_value}
use Rattle.row_decode.specs.Read.{is_wanted, wanted_value, on_column, read_from, hand_out, read_row}
use Rattle.row_same.specs.Rows.{all_columns}
use Rattle.row_same.proofs.Read.{ReadsAs}
use Rattle.row_build.specs.InnerSteps.{values_given}
use Rattle.row_build.proofs.Built.{IsDone, placed_both_done}
use Rattle.round_trip.specs.Same.{FullRead, list_read}

-- ---- the columns that were read, one by one

record Split (c : Result DataValue) (q : Values) (vs : List DataValue) : Type 0 where
  first : DataValue
  others : List DataValue
  column : c ≡ Ok first
  rest : q ≡ Ok others
  all : vs ≡ first ∷ others

refused_none : {A : Type 0} {e : Refusal} {vs : List DataValue} → ◌≡◌ {A = Values} (Err e) (Ok vs) → A
refused_none p = let z : ◌≡◌ {A = ℕ} 0 1 = cc in absurd (omega arith)

split : (c : Result DataValue) (q : Values) {vs : List DataValue} → on_column c q ≡ Ok vs → Split c q vs
split (Err e) q p = refused_none p
split (Ok v) (Err e) p = refused_none p
split (Ok v) (Ok us) p =
    record { first = v; others = us; column = refl; rest = refl; all = sym (ap values_given p) }

module _ (w : ℕ) (p : Bool) (ts : List DataType) (r : List ℕ) where
  abbrev pub from : ℕ → ℕ → Values
  from i n = read_from w p ts (λ j. true) r i n

  pub record Columns (i n : ℕ) (vs : List DataValue) : Type 0 where
    pub count : length vs ≡ n
    pub each : (k : ℕ) → k < n → column_value w p ts (i + k) r ≡ Ok (get_or vs k Null)

  more-columns : (n i : ℕ) {vs : List DataValue} (s : Split (column_value w p ts i r) (from (suc i) n) vs)
      → Columns (suc i) n s.others → Columns i (suc n) vs
  more-columns n i s c =
      record { count = ap length s.all ∙ ap suc c.count; each = λ k h. rw s.all (at k h) }
    where
      at : (k : ℕ) → k < suc n → column_value w p ts (i + k) r ≡ Ok (get_or (s.first ∷ s.others) k Null)
      at zero h = ap (λ (j : ℕ). column_value w p ts j r) (add-zero i) ∙ s.column
      at (suc k) h =
          let j : i + suc k ≡ suc i + k = omega arith in
          ap (λ (m : ℕ). column_value w p ts m r) j ∙ c.each k (omega arith)

  pub columns-read : (n i : ℕ) {vs : List DataValue} → from i n ≡ Ok vs → Columns i n vs
  columns-read zero i e = record { count = ap length (sym (ap values_given e)); each = λ k h. absurd (omega arith) }
  columns-read (suc n) i e =
      let s = split (column_value w p ts i r) (from (suc i) n) e in
      more-columns n i s (columns-read n (suc i) s.rest)

  -- every number below n is wanted
  pub wanted-all : (wanted : ℕ → Bool) (n i : ℕ) → ((j : ℕ) → j < i + n → wanted j ≡ true)
      → read_from w p ts wanted r i n ≡ from i n
  wanted-all wanted zero i h = refl
  wanted-all wanted (suc n) i h =
      ap₂ on_column (ap (λ (b : Bool). wanted_value b (column_value w p ts i r)) (h i (omega arith)))
      (wanted-all wanted n (suc i) (λ j l. h j (omega arith)))

-- ---- the call

pub record All {schema r : List ℕ} (q : FullRead schema r) : Type 0 where
  pub columns : List DataType
  pub schema-good : schema_of (is_long r) schema ≡ Ok columns
  pub packed : Bool
  pub frame : frame_of (is_long r) columns r ≡ Ok packed
  pub read : List DataValue
  pub all_read : all_columns (is_long r) columns r ≡ Ok read
  pub count : length read ≡ length columns
  pub each : (k : ℕ) → k < length columns → column_value (offset_width (is_long r)) packed columns k r ≡ Ok (get_or read k Null)
  pub list-is : list_read q ≡ list_of (is_long r) read

module _ {schema r : List ℕ} (q : FullRead schema r) where
  abbrev sort : Bool
  sort = is_long r

  of_values : (ts : List DataType) → schema_of sort schema ≡ Ok ts → (p : Bool)
      → frame_of sort ts r ≡ Ok p
      → (u : Values) → read_from (offset_width sort) p ts (is_wanted q.wanted) r 0 (length ts) ≡ u
      → hand_out sort q.out q.counts r u ≡ (Ok q.size, (q.after, q.numbers)) → All q
  of_values ts e p f (Err x) g o = absurd (subst IsDone (sym o) tt)
  of_values ts e p f (Ok vs) g o =
      let every : read_from (offset_width sort) p ts (λ j. true) r 0 (length ts) ≡ Ok vs
      = sym (wanted-all (offset_width sort) p ts r (is_wanted q.wanted) (length ts) 0 (λ j h. q.all ts e j (omega arith))) ∙ g in
      let c = columns-read (offset_width sort) p ts r (length ts) 0 every in
      record {
        columns = ts;
        schema-good = e;
        packed = p;
        frame = f;
        read = vs;
        all_read = ap (λ (x : Result Bool). on_frame x Err (λ y. read_from (offset_width sort) y ts (λ j. true) r 0 (length ts))) f ∙ every;
        count = c.count;
        each = λ k h. let z : 0 + k ≡ k = omega arith in ap (λ (j : ℕ). column_value (offset_width sort) p ts j r) (sym z) ∙ c.each k h;
        list-is = (placed_both_done q.out q.counts (list_of sort vs) (map (points_in r) vs) o).bytes.part;
      }

  of_frame : (ts : List DataType) → schema_of sort schema ≡ Ok ts → (f : Result Bool) → frame_of sort ts r ≡ f
      → on_frame f (unchanged_both q.out q.counts)
      (λ p. hand_out sort q.out q.counts r (read_from (offset_width sort) p ts (is_wanted q.wanted) r 0 (length ts))) ≡
      (Ok q.size, (q.after, q.numbers)) → All q
  of_frame ts e (Err x) f o = absurd (subst IsDone (sym o) tt)
  of_frame ts e (Ok p) f o = of_values ts e p f (read_from (offset_width sort) p ts (is_wanted q.wanted) r 0 (length ts)) refl o

  of_schema : (x : Parsed) → schema_of sort schema ≡ x
      → on_result x (unchanged_both q.out q.counts) (λ ts. read_row sort ts r q.wanted q.out q.counts) ≡
      (Ok q.size, (q.after, q.numbers)) → All q
  of_schema (Err x) e o = absurd (subst IsDone (sym o) tt)
  of_schema (Ok ts) e o = of_frame ts e (frame_of sort ts r) refl o

  pub all_of : All q
  all_of = of_schema (schema_of sort schema) refl q.done

  pub reads_as : ReadsAs schema r all_of.columns all_of.read
  reads_as = record { sort = is_long r; marked = refl; schema-good = all_of.schema-good; all_read = all_of.all_read }
