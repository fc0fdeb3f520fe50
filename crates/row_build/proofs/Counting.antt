-- The counts of the columns' code points: one for each cell, and the second pass that stores them.
use Rattle.std.specs.Prelude.{Ok}
use Prim.Native.Nat.{ℕ, zero, suc, ◌+◌, ◌≤◌, ◌<◌}
use mathlib.Core.Path.{◌≡◌, refl, sym, ap, ◌∙◌}
use mathlib.Core.Bool.{cond}
use mathlib.Core.List.{List, [], ◌∷◌}
use mathlib.Core.Option.{none, some}
use native.Mathlib.Nat.{zero-add}
use native.Mathlib.Omega.{arith}
use lib.ListN.{length, get_or, set, drop, replicate, length-map}
use lib.Seq.{sets, length-sets}
use Rattle.laws.proofs.Forall.{forall_length}
use Rattle.laws.proofs.Stores.{copied, copied_all}
use Rattle.row_format.specs.Table.{Cell}
use Rattle.row_layout.specs.declared.RowLayout.{RowLayout}
use Rattle.datatype.specs.declared.DataType.{DataType}
use Rattle.datatype.specs.Types.{shape_of}
use Rattle.datatype.specs.Check.{type_at, types_in}
use Rattle.datatype.proofs.Again.{columns-all}
use Rattle.value.specs.declared.DataValue.{DataValue}
use Rattle.value.specs.Ranges.{text_of}
use Rattle.stored_form.specs.Write.{stored_form}
use Rattle.stored_form.specs.Points.{stored_points}
use Rattle.record_slot.specs.Stored.{is_null}
use Rattle.record_slot.specs.InnerSteps.{Given, ReadAt}
use Rattle.record_slot.proofs.Tests.{CellIs, null, stored}
use Rattle.row_build.specs.Cells.{cells_from}
use Rattle.row_build.specs.Build.{cells_points}
use Rattle.row_build.specs.InnerSteps.{values_in, cells_in, counts_given, Fillable}
use Rattle.row_build.proofs.Walk.{type_given}
use Rattle.row_build.proofs.Cells.{cells_fit}
use Rattle.row_build.proofs.Writing.{Writing, write_cell}

-- ---- a count for each cell

length-points : (ts : List DataType) (cs : List Cell) → length cs ≡ length ts → length (cells_points ts cs) ≡ length ts
length-points [] cs e = refl
length-points (t ∷ ts) [] e = absurd (omega (arith, e))
length-points (t ∷ ts) (c ∷ cs) e = ap suc (length-points ts cs (omega (arith, e)))

points_of_lem : (ts : List DataType) (cs : List Cell) (i : ℕ) → length cs ≡ length ts → i < length ts → get_or (cells_points ts cs) i 0 ≡ stored_points (type_at ts i) (get_or cs i none)
points_of_lem [] cs i e h = absurd (omega arith)
points_of_lem (t ∷ ts) [] i e h = absurd (omega (arith, e))
points_of_lem (t ∷ ts) (c ∷ cs) zero e h = refl
points_of_lem (t ∷ ts) (c ∷ cs) (suc i) e h = points_of_lem ts cs i (omega (arith, e)) (omega (arith, h))

pub null-points : (ts : List DataType) → cells_points ts (replicate (length ts) none) ≡ replicate (length ts) 0
null-points [] = refl
null-points (t ∷ ts) = ap (λ (ns : List ℕ). 0 ∷ ns) (null-points ts)

-- that of a value
cell_points : (t : DataType) (v : DataValue) (area : List ℕ) {c : Cell} → CellIs t v area c → stored_points t c ≡ cond (is_null v) 0 (stored_points t (some (stored_form t v (text_of area v))))
cell_points t v area (null n) = rw n
cell_points t v area (stored n m a) = rw n

-- the cells of a list of values
module _ (ts : List DataType) (vs : List DataValue) (area : List ℕ) {cs : List Cell} (e : cells_from 0 ts vs area ≡ Ok cs) (n : length vs ≡ length ts) where
  pub many-cells : length cs ≡ length ts
  many-cells = forall_length (cells_fit area 0 ts vs e n) ∙ length-map ts shape_of

  pub many-points : length (cells_points ts cs) ≡ length ts
  many-points = length-points ts cs many-cells

-- ---- the second pass: what is left of the counts, stored on what was done

pub record Counting (s list area counts₀ counts : List ℕ) (i : ℕ) : Type 0 where
  pub left : sets counts i (drop i (counts_given s list area)) ≡ sets counts₀ 0 (counts_given s list area)

module _ {s list area counts₀ : List ℕ} where
  pub count-start : Counting s list area counts₀ counts₀ 0
  count-start = record { left = refl }

  module _ {counts : List ℕ} {i : ℕ} (q : Counting s list area counts₀ counts i) where
    abbrev ns : List ℕ
    ns = counts_given s list area

    pub count-size : length counts ≡ length counts₀
    count-size = sym (length-sets counts i (drop i ns)) ∙ ap length q.left ∙ length-sets counts₀ 0 ns

    module _ {l : RowLayout} {out₀ : List ℕ} (f : Fillable s l list area out₀) where
      pub count-end : l.num_columns ≤ i → counts ≡ sets counts₀ 0 ns
      count-end h = sym (rw zero-add at (copied_all counts ns 0 i (rw (many-points (types_in s) (values_in list) area f.all f.given.count) (omega (arith, h, columns-all f.given.accepted))))) ∙ q.left

      module _ {out : List ℕ} {at from slot entry end : ℕ} (k : Writing s l list area out₀ out i at from slot entry end) (h : i < length (types_in s)) {g : Given} (r : ReadAt s at list from g) where
        count-is : get_or ns i 0 ≡ cond (is_null g.value) 0 (stored_points g.ty (some (stored_form g.ty g.value (text_of area g.value))))
        count-is =
            points_of_lem (types_in s) (cells_in s list area) i (many-cells (types_in s) (values_in list) area f.all f.given.count) h
            ∙ ap (λ (t : DataType). stored_points t (get_or (cells_in s list area) i none)) (sym (type_given f.given k.walk h r))
            ∙ cell_points g.ty g.value area (write_cell f k h r)

        pub count-more : (p : ℕ) → p ≡ cond (is_null g.value) 0 (stored_points g.ty (some (stored_form g.ty g.value (text_of area g.value))))
            → Counting s list area counts₀ (set counts i p) (i + 1)
        count-more p e =
            let more = rw (zero-add i, zero-add (i + 1)) at (copied counts ns 0 i (rw (many-points (types_in s) (values_in list) area f.all f.given.count) h)) in
            record { left = ap (λ (x : ℕ). sets (set counts i x) (i + 1) (drop (i + 1) ns)) (e ∙ sym count-is) ∙ more ∙ q.left }
