-- The cells of values: each is its column's, and suits its shape.
use Rattle.std.specs.Prelude.{Err, Ok}
use Prim.Native.Nat.{ℕ, zero, suc, ◌+◌, ◌<◌}
use mathlib.Core.Path.{◌≡◌, refl, sym, ap, subst}
use mathlib.Core.Bool.{Bool, true, false, cond}
use mathlib.Core.List.{List, [], ◌∷◌, map}
use mathlib.Core.Option.{none, some}
use native.Mathlib.Nat.{add-zero}
use native.Mathlib.Omega.{arith}
use lib.ListN.{length, get_or}
use Rattle.error.specs.Result.{Result}
use Rattle.laws.specs.InnerForall.{Forall₂, nil, cons}
use Rattle.row_format.specs.declared.Shape.TheVariants.{Fixed, Varlen}
use Rattle.row_format.specs.Table.{Cell}
use Rattle.row_format.proofs.Fresh.{null-fits}
use Rattle.row_format.specs.InnerRow.{FitsCell}
use Rattle.datatype.specs.declared.DataType.{DataType}
use Rattle.datatype.specs.Types.{size_of, alignment_of, is_varlen, shape_of}
use Rattle.datatype.specs.Check.{type_at}
use Rattle.value.specs.declared.DataValue.{DataValue}
use Rattle.record_slot.specs.Stored.{cell_in}
use Rattle.row_build.specs.Cells.{on_cell, cells_from}
use Rattle.row_build.specs.InnerSteps.{cells_given}
use Rattle.record_slot.proofs.Tests.{IsGood, CellIs, null, stored, cell_is, length-slot}
use Rattle.row_build.proofs.Walk.{value_at}

-- ---- the first cell, and those after it

pub record First (q : Result Cell) (rest : Result (List Cell)) (cs : List Cell) : Type 0 where
  pub cell : Cell
  pub others : List Cell
  pub cell_good : q ≡ Ok cell
  pub others-good : rest ≡ Ok others
  pub all : cs ≡ cell ∷ others

pub first_cell : (q : Result Cell) (rest : Result (List Cell)) {cs : List Cell} → on_cell q rest ≡ Ok cs → First q rest cs
first_cell (Ok c) (Ok ds) e = record { cell = c; others = ds; cell_good = refl; others-good = refl; all = sym (ap cells_given e) }
first_cell (Ok c) (Err u) e = absurd (subst IsGood (sym e) tt)
first_cell (Err u) rest e = absurd (subst IsGood (sym e) tt)

-- ---- each of them

module _ (area : List ℕ) where
  cells_at : (j : ℕ) (ts : List DataType) (vs : List DataValue) {cs : List Cell} → cells_from j ts vs area ≡ Ok cs → length vs ≡ length ts
      → (k : ℕ) → k < length ts → cell_in (j + k) (type_at ts k) (value_at vs k) area ≡ Ok (get_or cs k none)
  cells_at j [] vs e n k h = absurd (omega arith)
  cells_at j (t ∷ ts) [] e n k h = absurd (omega arith)
  cells_at j (t ∷ ts) (v ∷ vs) e n zero h =
      let f = first_cell (cell_in j t v area) (cells_from (j + 1) ts vs area) e in
      rw (add-zero, f.all) f.cell_good
  cells_at j (t ∷ ts) (v ∷ vs) e n (suc k) h =
      let f = first_cell (cell_in j t v area) (cells_from (j + 1) ts vs area) e in
      let m : j + suc k ≡ j + 1 + k = omega arith in
      rw (m, f.all) (cells_at (j + 1) ts vs f.others-good (omega arith) k (omega arith))

  pub cell_at_lem : (ts : List DataType) (vs : List DataValue) {cs : List Cell} → cells_from 0 ts vs area ≡ Ok cs → length vs ≡ length ts
      → (k : ℕ) → k < length ts → CellIs (type_at ts k) (value_at vs k) area (get_or cs k none)
  cell_at_lem ts vs e n k h = cell_is (0 + k) (type_at ts k) (value_at vs k) area (cells_at 0 ts vs e n k h)

  cell_fits : (t : DataType) (v : DataValue) (c : Cell) → CellIs t v area c → FitsCell (shape_of t) c
  cell_fits t v none (null n) = null-fits (shape_of t)
  cell_fits t v (some x) (stored n m a) = by_shape (is_varlen t) refl
    where
      by_shape : (b : Bool) → is_varlen t ≡ b → FitsCell (cond b Varlen (Fixed (size_of t) (alignment_of t))) (some x)
      by_shape true f = tt
      by_shape false f = length-slot t v area m a f

  pub cells_fit : (j : ℕ) (ts : List DataType) (vs : List DataValue) {cs : List Cell} → cells_from j ts vs area ≡ Ok cs → length vs ≡ length ts → Forall₂ FitsCell (map shape_of ts) cs
  cells_fit j [] vs e n = subst (λ (l : List Cell). Forall₂ FitsCell [] l) (ap cells_given e) nil
  cells_fit j (t ∷ ts) [] e n = absurd (omega arith)
  cells_fit j (t ∷ ts) (v ∷ vs) {cs} e n =
      let f = first_cell (cell_in j t v area) (cells_from (j + 1) ts vs area) e in
      subst (Forall₂ FitsCell (map shape_of (t ∷ ts))) (sym f.all) (cons (cell_fits t v f.cell (cell_is j t v area f.cell_good)) (cells_fit (j + 1) ts vs f.others-good (omega arith)))
