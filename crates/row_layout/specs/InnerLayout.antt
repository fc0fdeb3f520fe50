-- For the proofs: a layout taken past a column, its minimum, and what keeps the sums from wrapping. A walk over the
-- columns goes by the geometry alone: what is before a column has the short sort, which nothing asks.
use Rattle.std.specs.Prelude.{ℕ, ◌+◌, ◌*◌, ◌≤◌, ◌<◌, Bool, true, false, []}
use Rattle.row_format.specs.declared.Shape.{Shape}
use Rattle.row_format.specs.declared.Shape.TheVariants.{Fixed, Varlen}
use Rattle.row_format.specs.Places.{rank_after, end_after, table_start, fixed_start, offset_width}
use Rattle.row_layout.specs.declared.OffsetTable.{OffsetTable}
use Rattle.row_layout.specs.declared.RowLayout.{RowLayout}
use Rattle.row_layout.specs.Layout.{layout_of, size_in}

abbrev pub no_columns : RowLayout
no_columns = layout_of false []

-- the same geometry for a sort
abbrev pub of_sort : Bool → RowLayout → RowLayout
of_sort k l =
    record {
      num_columns = l.num_columns;
      num_varlen_cols = l.num_varlen_cols;
      packed_size = l.packed_size;
      padded_size = l.padded_size;
      is_long = k;
    }

abbrev pub with_column : RowLayout → Shape → RowLayout
with_column l s =
    record {
      num_columns = l.num_columns + 1;
      num_varlen_cols = rank_after s l.num_varlen_cols;
      packed_size = end_after true s l.packed_size;
      padded_size = end_after false s l.padded_size;
      is_long = l.is_long;
    }

-- `offset_table`
abbrev pub table_of : RowLayout → OffsetTable
table_of l = record { is_long = l.is_long; start = table_start l.num_columns; entries = l.num_varlen_cols }

-- `min_row_size`
abbrev pub minimum_of : RowLayout → Bool → ℕ
minimum_of l p = fixed_start (offset_width l.is_long) l.num_columns l.num_varlen_cols + size_in l p

-- ---- what keeps the sums from wrapping

-- a slot of a type: at most 65,535 bytes, aligned at 1 to 8
abbrev pub Small : Shape → Type 0
Small (Fixed z a) = (z ≤ 65535) × ((0 < a) × (a ≤ 8))
Small Varlen = Unit {0}

pub record Bounded (l : RowLayout) : Type 0 where
  pub few : l.num_columns ≤ 256
  pub ranked : l.num_varlen_cols ≤ l.num_columns
  pub tight : l.packed_size ≤ 65542 * l.num_columns
  pub wide : l.padded_size ≤ 65542 * l.num_columns
