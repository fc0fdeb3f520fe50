-- What a build that answers Ok has done, and which lists build equal rows.
use Rattle.std.specs.Prelude.{Err, Ok}
use Prim.Native.Nat.{ℕ, ◌≤◌}
use mathlib.Core.Path.{◌≡◌, refl, sym, ap, ◌∙◌, subst}
use mathlib.Core.Bool.{Bool, true, false, cond, ◌||◌}
use mathlib.Core.List.{List, map}
use native.Mathlib.Omega.{arith}
use borrow.Author.Tests.{ltb-false}
use lib.Dec.{ltb}
use lib.ListN.{length, take}
use lib.Seq.{sets}
use Rattle.error.specs.declared.Refusal.TheVariants.{RowLimit, NoRoom}
use Rattle.error.specs.Answer.{Outcome, unchanged, placed, Counted, unchanged_both, placed_both}
use Rattle.error.specs.Result.{Result, on_result}
use Rattle.laws.specs.InnerForall.{Forall₂}
use Rattle.laws.proofs.Bytes.{part-stored}
use Rattle.row_format.specs.Places.{offset_width, row_limit}
use Rattle.row_format.specs.Table.{Cell}
use Rattle.row_format.specs.Row.{packed_marks, built_row}
use Rattle.row_format.proofs.Cells.{built_inj}
use Rattle.row_format.proofs.Sorts.{fits_limit}
use Rattle.row_format.specs.InnerRow.{FitsCell}
use Rattle.datatype.specs.declared.DataType.{DataType}
use Rattle.datatype.specs.Types.{shape_of}
use Rattle.datatype.specs.Schema.{Parsed, schema_of}
use Rattle.datatype.specs.Check.{columns_of}
use Rattle.value.specs.declared.DataValue.{DataValue}
use Rattle.value_list.specs.Lists.{Values, checked}
use Rattle.value_list.proofs.Lists.{checked-taken}
use Rattle.row_build.specs.Cells.{cells_from}
use Rattle.row_build.specs.Build.{row_placed_both, cells_points, build_values, build_row}
use Rattle.row_build.specs.Built.{Built, DoneBuild, DoneIsBuilt, EqualRows}
use Rattle.row_build.proofs.Cells.{cells_fit}
use Rattle.row_build.proofs.Counting.{many-points}

-- the answer, beside what was written
abbrev pub IsDone : {B : Type 0} → Result ℕ × B → Type 0
IsDone (Ok n, b) = Unit {0}
IsDone (Err e, b) = ⊥

abbrev done_in : {B : Type 0} → Result ℕ × B → ℕ
done_in (Ok n, b) = n
done_in (Err e, b) = 0

-- what a result x leaves of the output
pub record Placed (out x : List ℕ) (n : ℕ) (after : List ℕ) : Type 0 where
  pub size : n ≡ length x
  pub room : length x ≤ length out
  pub stored : after ≡ sets out 0 x
  pub part : take n after ≡ x

-- and, with numbers ns, of the list of counts
pub record PlacedBoth (out counts x ns : List ℕ) (n : ℕ) (after numbers : List ℕ) : Type 0 where
  pub bytes : Placed out x n after
  pub enough : length ns ≤ length counts
  pub put : numbers ≡ sets counts 0 ns

is-placed : (out x : List ℕ) {n : ℕ} {after : List ℕ} → ltb (length out) (length x) ≡ false → n ≡ length x → after ≡ sets out 0 x → Placed out x n after
is-placed out x k m s =
    let h : length x ≤ length out = ltb-false (length out) (length x) k in
    record { size = m; room = h; stored = s; part = rw (s, m) (part-stored out 0 x (omega arith)) }

pub placed-done : (out x : List ℕ) {n : ℕ} {after : List ℕ} → placed out x ≡ (Ok n, after) → Placed out x n after
placed-done out x {n} {after} e = by_room (ltb (length out) (length x)) refl e
  where
    by_room : (t : Bool) → ltb (length out) (length x) ≡ t
        → ◌≡◌ {A = Outcome} (cond t (unchanged out NoRoom) (Ok (length x), sets out 0 x)) (Ok n, after)
        → Placed out x n after
    by_room true k p = absurd (subst IsDone (sym p) tt)
    by_room false k p = is-placed out x k (sym (ap done_in p)) (sym (ap (λ (z : Outcome). z.1) p))

pub placed_both_done : (out counts x ns : List ℕ) {n : ℕ} {after numbers : List ℕ} → placed_both out counts x ns ≡ (Ok n, (after, numbers)) → PlacedBoth out counts x ns n after numbers
placed_both_done out counts x ns {n} {after} {numbers} e = by_room (ltb (length out) (length x)) (ltb (length counts) (length ns)) refl refl e
  where
    by_room : (t u : Bool) → ltb (length out) (length x) ≡ t → ltb (length counts) (length ns) ≡ u
        → ◌≡◌ {A = Counted} (cond (t || u) (unchanged_both out counts NoRoom) (Ok (length x), (sets out 0 x, sets counts 0 ns))) (Ok n, (after, numbers))
        → PlacedBoth out counts x ns n after numbers
    by_room true u k l p = absurd (subst IsDone (sym p) tt)
    by_room false true k l p = absurd (subst IsDone (sym p) tt)
    by_room false false k l p =
        record {
          bytes = is-placed out x k (sym (ap done_in p)) (sym (ap (λ (z : Counted). z.1.0) p));
          enough = ltb-false (length counts) (length ns) l;
          put = sym (ap (λ (z : Counted). z.1.1) p);
        }

module _ (k : Bool) (schema list area out counts : List ℕ) (n : ℕ) (after numbers : List ℕ) where
  abbrev Goal : Type 0
  Goal = DoneBuild k schema list area out counts n after numbers

  of_cells : (ts : List DataType) → schema_of k schema ≡ Ok ts → (vs : List DataValue) → checked k (length ts) (length area) list ≡ Ok vs
      → (q : Result (List Cell)) → cells_from 0 ts vs area ≡ q
      → on_result q (unchanged_both out counts) (λ cs. row_placed_both k out counts (built_row (offset_width k) (packed_marks k) (map shape_of ts) cs) (cells_points ts cs)) ≡ (Ok n, (after, numbers)) → Goal
  of_cells ts e vs f (Err u) g o = absurd (subst IsDone (sym o) tt)
  of_cells ts e vs f (Ok cs) g o = by_limit (ltb (row_limit k) (length r)) refl o
    where
      r : List ℕ
      r = built_row (offset_width k) (packed_marks k) (map shape_of ts) cs

      many : length (cells_points ts cs) ≡ length ts
      many = many-points ts vs area g (checked-taken k (length ts) (length area) list f).count

      by_limit : (t : Bool) → ltb (row_limit k) (length r) ≡ t
          → cond t (unchanged_both out counts RowLimit) (placed_both out counts r (cells_points ts cs)) ≡ (Ok n, (after, numbers)) → Goal
      by_limit true l p = absurd (subst IsDone (sym p) tt)
      by_limit false l p =
          let q = placed_both_done out counts r (cells_points ts cs) p in
          let x = q.bytes in
          record {
            built =
                record {
                  columns = ts;
                  schema-good = e;
                  given = vs;
                  list-good = f;
                  cells = cs;
                  cells-good = g;
                  size = x.size;
                  short = rw x.size (ltb-false (row_limit k) (length r) l);
                  room = rw x.size x.room;
                  stored = x.stored;
                  row = x.part;
                };
            counted = record { many = many; enough = rw many at q.enough; put = q.put };
          }

  of_values : (ts : List DataType) → schema_of k schema ≡ Ok ts → (q : Values) → checked k (length ts) (length area) list ≡ q
      → on_result q (unchanged_both out counts) (λ vs. build_values k ts vs area out counts) ≡ (Ok n, (after, numbers)) → Goal
  of_values ts e (Err u) f o = absurd (subst IsDone (sym o) tt)
  of_values ts e (Ok vs) f o = of_cells ts e vs f (cells_from 0 ts vs area) refl o

  of_schema : (q : Parsed) → schema_of k schema ≡ q → on_result q (unchanged_both out counts) (λ ts. build_row k ts list area out counts) ≡ (Ok n, (after, numbers)) → Goal
  of_schema (Err u) e o = absurd (subst IsDone (sym o) tt)
  of_schema (Ok ts) e o = of_values ts e (checked k (length ts) (length area) list) refl o

pub built : (k : Bool) (schema list area out counts : List ℕ) → DoneIsBuilt k schema list area out counts
built k schema list area out counts n after numbers o = of_schema k schema list area out counts n after numbers (schema_of k schema) refl o

-- ---- equal rows

cells_suit : {k : Bool} {schema list area out : List ℕ} {n : ℕ} {after : List ℕ} (b : Built k schema list area out n after)
    → Forall₂ FitsCell (map shape_of b.columns) b.cells
cells_suit {k} {schema} {list} {area} b =
    cells_fit area 0 b.columns b.given b.cells-good
    (checked-taken k (length b.columns) (length area) list b.list-good).count

module _ {k : Bool} {schema list area out : List ℕ} {n : ℕ} {after : List ℕ} (b : Built k schema list area out n after)
    {list' area' out' : List ℕ} {n' : ℕ} {after' : List ℕ} (b' : Built k schema list' area' out' n' after') where
  same-columns : b.columns ≡ b'.columns
  same-columns = ap columns_of (sym b.schema-good ∙ b'.schema-good)

  row_out : take n' after' ≡ built_row (offset_width k) (packed_marks k) (map shape_of b.columns) b'.cells
  row_out = b'.row ∙ ap (λ (ts : List DataType). built_row (offset_width k) (packed_marks k) (map shape_of ts) b'.cells) (sym same-columns)

  same_rows : b.cells ≡ b'.cells → take n after ≡ take n' after'
  same_rows e = b.row ∙ ap (built_row (offset_width k) (packed_marks k) (map shape_of b.columns)) e ∙ sym row_out

  same-cells : take n after ≡ take n' after' → b.cells ≡ b'.cells
  same-cells e =
      let f' = cells_suit b' in
      built_inj (offset_width k) (packed_marks k) (cells_suit b) (rw (← same-columns) at f') (rw (← b.size) (fits_limit k b.short)) (sym b.row ∙ e ∙ row_out)

  pub same-built : EqualRows b b'
  same-built = (same-cells, same_rows)
