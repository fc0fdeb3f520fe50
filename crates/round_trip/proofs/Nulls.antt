-- The null flags of a row that was built.
use Prim.Native.Nat.{ℕ, ◌≤◌}
use mathlib.Core.Path.{◌≡◌, ◌∙◌}
use mathlib.Core.List.{List}
use native.Mathlib.Omega.{arith}
use borrow.Author.Tests.{le-ltb, le-leb, lt-leb}
use lib.ListN.{length, length-map}
use Rattle.row_format.specs.Places.{table_start, row_limit}
use Rattle.datatype.specs.Types.{shape_of}
use Rattle.null_bitmap.specs.Bitmap.{column_flag, null_flag}
use Rattle.row_build.specs.Built.{Built}
use Rattle.round_trip.specs.ReadBack.{row}
use Rattle.round_trip.specs.Nulls.{NullsBack}
use Rattle.round_trip.proofs.Sorts.{built-sort}
use Rattle.round_trip.proofs.ReadBuilt.{row-length, count-is, null-built}
use Rattle.round_trip.proofs.ReadBack.{cells_row, taken, few, short}
use mathlib.Core.Bool.{Bool}

module _ {sort : Bool} {schema list area out : List ℕ} {n : ℕ} {after : List ℕ}
    (b : Built sort schema list area out n after) where
  long : table_start (length b.columns) ≤ length (cells_row b)
  long =
      omega (
        arith,
        row-length sort b.columns b.given area b.cells-good (taken b).count (few b),
        length-map
            b.columns shape_of,
      )

  -- behind 4 and 3
  flag_is : (i : ℕ) → null_flag (row b) i ≡ column_flag (length b.columns) (cells_row b) i
  flag_is i =
      rw (
        built-sort b,
        b.row,
        le-ltb (row_limit sort) (length (cells_row b)) (short b),
        le-ltb (length (cells_row b)) 4 (omega (arith, long)),
        count-is sort b.columns b.given area b.cells-good (taken b).count (few b),
      )

  pub built-nulls : NullsBack b
  built-nulls =
      record {
        flag = λ i h.
            flag_is i
            ∙ rw (
              lt-leb (length b.columns) i h,
              le-ltb (length (cells_row b)) (table_start (length b.columns)) long,
              null-built sort b.columns b.given area b.cells-good (taken b).count (few b) i h,
            );
        past = λ i h. flag_is i ∙ rw (le-leb (length b.columns) i h);
      }
