-- A schema that was accepted, walked again: its columns by their numbers, and the layout of those before.
use Rattle.error.specs.Result.{Result}
use Rattle.std.specs.Prelude.{Err, Ok}
use Prim.Native.Nat.{ℕ, suc, ◌+◌, ◌-◌, ◌≤◌, ◌<◌}
use mathlib.Core.Path.{◌≡◌, refl, sym, ap, ◌∙◌, subst}
use mathlib.Core.Bool.{Bool, true, false}
use mathlib.Core.List.{List, [], ◌∷◌, map}
use native.Mathlib.Numerals.{add-one}
use native.Mathlib.Omega.{arith}
use borrow.Author.Tests.{ltb-true, ltb-false}
use lib.Dec.{ltb}
use lib.ListN.{length, get_or, take, drop, length-drop, length-map}
use lib.Seq.{drop-cons, length-take-le}
use Rattle.error.specs.declared.Refusal.{Refusal}
use Rattle.laws.proofs.Maps.{take-map, at_map}
use Rattle.row_format.specs.declared.Shape.{Shape}
use Rattle.row_format.specs.declared.Shape.TheVariants.{Fixed, Varlen}
use Rattle.row_format.specs.Places.{through, rank_after, varlens}
use Rattle.row_format.specs.InnerAligned.{Aligned, All, none, more}
use Rattle.row_format.proofs.Places.{through-split, size-take}
use Rattle.row_layout.specs.declared.RowLayout.{RowLayout}
use Rattle.row_layout.specs.Layout.{size_in}
use Rattle.row_layout.proofs.Columns.{layout-next}
use Rattle.row_layout.specs.InnerLayout.{Bounded, no_columns, with_column}
use Rattle.datatype.specs.declared.DataType.{DataType}
use Rattle.datatype.specs.declared.DataType.TheVariants as T
use Rattle.datatype.specs.declared.Step.{Step}
use Rattle.datatype.specs.Types.{shape_of}
use Rattle.datatype.specs.Schema.{column_records, column_record_at}
use Rattle.datatype.specs.Check.{type_at, layout_for, types_in}
use Rattle.datatype.specs.InnerSteps.{Passable, passed, type_in}
use Rattle.datatype.proofs.Walk.{First, none_left, some_left, not_refused, first_left}
use Rattle.datatype.specs.InnerCheck.{Accepted, layout_before}

-- ---- the layout of all columns, and of the columns before one

pub columns-all : {s : List ℕ} {l : RowLayout} → Accepted s l → l.num_columns ≡ length (types_in s)
columns-all {s} a = ap (λ (k : RowLayout). k.num_columns) (sym a.layout) ∙ length-map (types_in s) shape_of

pub before-next : (ts : List DataType) (i : ℕ) → i < length ts → layout_before ts (i + 1) ≡ with_column (layout_before ts i) (shape_of (type_at ts i))
before-next ts i h =
    rw (add-one i, ← take-map shape_of (suc i) ts, ← take-map shape_of i ts, ← at_map shape_of i ts (T.Varchar false 0))
    (layout-next false (map shape_of ts) i (rw (length-map ts shape_of) h))

aligned : (t : DataType) → Aligned (shape_of t)
aligned T.SmallInt = omega arith
aligned T.Int = omega arith
aligned T.BigInt = omega arith
aligned T.Real = omega arith
aligned T.DoublePrecision = omega arith
aligned (T.Numeric p s) = omega arith
aligned (T.Decimal p s) = omega arith
aligned T.Bool = omega arith
aligned (T.Char n) = omega arith
aligned (T.Character n) = omega arith
aligned (T.Varchar p n) = tt
aligned T.Date = omega arith
aligned T.Time = omega arith
aligned (T.Bit n) = omega arith
aligned T.Timestamp = omega arith

-- ---- layouts only grow

pub record Grown (b l : RowLayout) : Type 0 where
  pub columns : b.num_columns ≤ l.num_columns
  pub varlens : b.num_varlen_cols ≤ l.num_varlen_cols
  pub packed : b.packed_size ≤ l.packed_size
  pub padded : b.padded_size ≤ l.padded_size

rank_ge : (s : Shape) (k : ℕ) → k ≤ rank_after s k
rank_ge (Fixed z a) k = omega arith
rank_ge Varlen k = omega arith

ranks_ge : (ss : List Shape) (k : ℕ) → k ≤ through rank_after k ss
ranks_ge [] k = omega arith
ranks_ge (s ∷ ss) k = omega (arith, rank_ge s k, ranks_ge ss (rank_after s k))

pub all_aligned : (ts : List DataType) → All (map shape_of ts)
all_aligned [] = none
all_aligned (t ∷ ts) = more (aligned t) (all_aligned ts)

pub grown : (k : Bool) (ts : List DataType) (i : ℕ) → i ≤ length ts → Grown (layout_before ts i) (layout_for k ts)
grown k ts i h =
    record {
      columns = rw (length-map (take i ts) shape_of, length-map ts shape_of, length-take-le i ts h) h;
      varlens = rw (← take-map shape_of i ts, through-split rank_after (map shape_of ts) i 0) (ranks_ge (drop i (map shape_of ts)) (varlens (take i (map shape_of ts))));
      packed = rw (← take-map shape_of i ts) (size-take true (map shape_of ts) i (all_aligned ts));
      padded = rw (← take-map shape_of i ts) (size-take false (map shape_of ts) i (all_aligned ts));
    }

pub size_grown : {b l : RowLayout} → Grown b l → (p : Bool) → size_in b p ≤ size_in l p
size_grown g true = g.packed
size_grown g false = g.padded

-- ---- the walk: the columns before a place of the schema, and the records that are left

pub record Ahead (s : List ℕ) (b : RowLayout) (at : ℕ) : Type 0 where
  pub bounded : Bounded b
  pub within : b.num_columns ≤ length (types_in s)
  pub so_far : b ≡ layout_before (types_in s) b.num_columns
  pub ahead : column_records (256 - b.num_columns) s at ≡ Ok (drop b.num_columns (types_in s))

pub ahead-start : {s : List ℕ} → column_records 256 s 0 ≡ Ok (types_in s) → Ahead s no_columns 0
ahead-start e = record { bounded = record { few = omega arith; ranked = omega arith; tight = omega arith; wide = omega arith }; within = omega arith; so_far = refl; ahead = e }

module _ {s : List ℕ} {b : RowLayout} {at : ℕ} (w : Ahead s b at) where
  pub ahead-end : length s ≤ at → b.num_columns ≡ length (types_in s)
  ahead-end h =
      let none : length (drop b.num_columns (types_in s)) ≡ 0 = ap length (none_left s at (256 - b.num_columns) w.ahead h) in
      let gone = rw (length-drop b.num_columns (types_in s)) at none in
      omega (arith, gone, w.within)

  module _ (h : at < length s) where
    pub ahead-few : b.num_columns < 256
    ahead-few = omega (arith, some_left s at (256 - b.num_columns) w.ahead h)

    pub ahead-good : {r : Refusal} → column_record_at s at ≡ Err r → ⊥
    ahead-good f = not_refused s at (256 - b.num_columns) w.ahead h f

    module _ {t : DataType} {next : ℕ} (e : column_record_at s at ≡ Ok (t, next)) where
      first : First (256 - (b.num_columns + 1)) s next t (drop b.num_columns (types_in s))
      first = first_left s at (256 - b.num_columns) w.ahead h (256 - (b.num_columns + 1)) (omega (arith, ahead-few)) e

      pub ahead-inside : b.num_columns < length (types_in s)
      ahead-inside =
          let f : length (drop b.num_columns (types_in s)) ≡ suc (length first.tail) = ap length first.split in
          let g = rw (length-drop b.num_columns (types_in s)) at f in
          omega (arith, g)

      split : t ∷ first.tail ≡ type_at (types_in s) b.num_columns ∷ drop (b.num_columns + 1) (types_in s)
      split = sym first.split ∙ rw (add-one b.num_columns) (drop-cons (types_in s) b.num_columns (T.Varchar false 0) ahead-inside)

      pub ahead_type : t ≡ type_at (types_in s) b.num_columns
      ahead_type = ap (λ (ts : List DataType). get_or ts 0 (T.Varchar false 0)) split

      tail_is : first.tail ≡ drop (b.num_columns + 1) (types_in s)
      tail_is = ap (λ (ts : List DataType). drop 1 ts) split

      pub ahead-split : drop b.num_columns (types_in s) ≡ t ∷ drop (b.num_columns + 1) (types_in s)
      ahead-split = first.split ∙ ap (λ (ts : List DataType). t ∷ ts) tail_is

      pub ahead-next : with_column b (shape_of t) ≡ layout_before (types_in s) (b.num_columns + 1)
      ahead-next = ap (λ (u : DataType). with_column b (shape_of u)) ahead_type ∙ ap (λ (k : RowLayout). with_column k (shape_of (type_at (types_in s) b.num_columns))) w.so_far ∙ sym (before-next (types_in s) b.num_columns ahead-inside)

      pub ahead_more : Bounded (with_column b (shape_of t)) → Ahead s (with_column b (shape_of t)) next
      ahead_more small = record { bounded = small; within = omega (arith, ahead-inside); so_far = ahead-next; ahead = first.ahead ∙ ap Ok tail_is }

-- ---- a step of the walk

pub record Next (s : List ℕ) (at : ℕ) : Type 0 where
  pub ty : DataType
  pub next : ℕ
  pub is : column_record_at s at ≡ Ok (ty, next)

module _ {s : List ℕ} {b : RowLayout} {at : ℕ} (w : Ahead s b at) where
  -- a column that is there has a record
  pub ahead_there : b.num_columns < length (types_in s) → at < length s
  ahead_there few = by_test (ltb at (length s)) refl
    where
      by_test : (t : Bool) → ltb at (length s) ≡ t → at < length s
      by_test true e = ltb-true at (length s) e
      by_test false e = absurd (omega (arith, few, ahead-end w (ltb-false at (length s) e)))

  module _ (h : at < length s) where
    pub ahead_passable : Passable s at
    ahead_passable = record { here = h; good = λ e f. ahead-good w h f }

    pub ahead-column : Next s at
    ahead-column = of (column_record_at s at) refl
      where
        of : (x : Result (DataType × ℕ)) → column_record_at s at ≡ x → Next s at
        of (Ok (t, n)) e = record { ty = t; next = n; is = e }
        of (Err r) e = absurd (ahead-good w h e)

    pub ahead-typed : type_in (column_record_at s at) ≡ type_at (types_in s) b.num_columns
    ahead-typed = ap type_in ahead-column.is ∙ ahead_type w h ahead-column.is

    module _ {r : Step} (e : r ≡ passed at b (column_record_at s at)) where
      pub step_is : r ≡ record { at = ahead-column.next; before = with_column b (shape_of ahead-column.ty) }
      step_is = e ∙ ap (passed at b) ahead-column.is

      pub step_column : r.before.num_columns ≡ b.num_columns + 1
      step_column = ap (λ (q : Step). q.before.num_columns) step_is

      pub ahead_step : Bounded r.before → Ahead s r.before r.at
      ahead_step small =
          subst (λ (q : Step). Ahead s q.before q.at) (sym step_is) (ahead_more w h ahead-column.is (subst (λ (q : Step). Bounded q.before) step_is small))
