-- A fresh row is the row that is built of nulls.
use Rattle.std.specs.Prelude.{Ok}
use Prim.Native.Nat.{ℕ, zero, suc, ◌+◌, ◌≤◌}
use mathlib.Core.Path.{◌≡◌, refl, ap, ◌∙◌}
use mathlib.Core.Bool.{Bool, true, false}
use mathlib.Core.List.{List, [], ◌∷◌, map}
use mathlib.Core.Option.{none}
use native.Mathlib.Omega.{arith}
use borrow.Author.Tests.{le-ltb}
use lib.ListN.{length, replicate, length-map, length-replicate}
use Rattle.error.specs.Answer.{unchanged, placed, unchanged_both, placed_both}
use Rattle.error.specs.Result.{Result, on_result, before}
use Rattle.row_format.specs.Places.{minimum, offset_width, row_limit}
use Rattle.row_format.specs.Table.{Cell}
use Rattle.row_format.specs.Row.{packed_marks, built_row}
use Rattle.row_format.proofs.Fresh.{length-fresh}
use Rattle.datatype.specs.declared.DataType.{DataType}
use Rattle.datatype.specs.Types.{shape_of}
use Rattle.datatype.specs.Schema.{Parsed}
use Rattle.value.specs.declared.DataValue.TheVariants.{Null}
use Rattle.value_list.specs.Lists.{Values, checked, list_of}
use Rattle.value_list.proofs.Lists.{list-checked}
use Rattle.value_list.specs.InnerLists.{AllSized, AllNarrow}
use Rattle.row_build.specs.Cells.{cells_from}
use Rattle.row_build.specs.Build.{row_placed_both, cells_points, build_values, build_row, fresh_row}
use Rattle.row_build.specs.Built.{FreshIsBuilt}
use Rattle.row_build.proofs.Counting.{null-points}
use Rattle.row_build.proofs.Schemas.{schema-minimum}

-- ---- a list of nulls

nulls-listed : (n : ℕ) → list_of false (replicate n Null) ≡ replicate n 0
nulls-listed zero = refl
nulls-listed (suc n) = ap (λ (l : List ℕ). 0 ∷ l) (nulls-listed n)

nulls-sized : (n : ℕ) → AllSized (replicate n Null)
nulls-sized zero = tt
nulls-sized (suc n) = (tt, nulls-sized n)

nulls_narrow : (n : ℕ) → AllNarrow false (replicate n Null)
nulls_narrow zero = tt
nulls_narrow (suc n) = (tt, nulls_narrow n)

nulls-checked : (k : Bool) (n : ℕ) → checked k n 0 (replicate n 0) ≡ Ok (replicate n Null)
nulls-checked k n = rw (← nulls-listed n) (list-checked k false n 0 (replicate n Null) (nulls-sized n) (nulls_narrow n) (length-replicate n Null) (omega arith))

null_cells : (i : ℕ) (ts : List DataType) (area : List ℕ) → cells_from i ts (replicate (length ts) Null) area ≡ Ok (replicate (length ts) none)
null_cells i [] area = refl
null_cells i (t ∷ ts) area = ap (before none) (null_cells (i + 1) ts area)

-- ---- the calls

module _ (k : Bool) (out counts : List ℕ) where
  row-built : (ts : List DataType) → minimum (offset_width k) true (map shape_of ts) ≤ row_limit k
      → build_row k ts (replicate (length ts) 0) [] out counts ≡ placed_both out counts (fresh_row k ts) (replicate (length ts) 0)
  row-built ts h =
      let n : length (fresh_row k ts) ≡ minimum (offset_width k) true (map shape_of ts) = rw (← length-map ts shape_of) (length-fresh (offset_width k) (packed_marks k) (map shape_of ts)) in
      let short : length (fresh_row k ts) ≤ row_limit k = rw n h in
      ap (λ (q : Values). on_result q (unchanged_both out counts) (λ vs. build_values k ts vs [] out counts)) (nulls-checked k (length ts))
      ∙ ap (λ (q : Result (List Cell)). on_result q (unchanged_both out counts) (λ cs. row_placed_both k out counts (built_row (offset_width k) (packed_marks k) (map shape_of ts) cs) (cells_points ts cs))) (null_cells 0 ts [])
      ∙ ap (row_placed_both k out counts (fresh_row k ts)) (null-points ts) ∙ rw (le-ltb (row_limit k) (length (fresh_row k ts)) short)

pub fresh-is-built : (k : Bool) (schema out : List ℕ) → FreshIsBuilt k schema out
fresh-is-built k schema out columns e =
    record {
      fresh = ap (λ (p : Parsed). on_result p (unchanged out) (λ us. placed out (fresh_row k us))) e;
      built = λ counts.
          ap (λ (p : Parsed). on_result p (unchanged_both out counts) (λ us. build_row k us (replicate (length columns) 0) [] out counts)) e
          ∙ row-built k out counts columns (schema-minimum k schema e);
    }
