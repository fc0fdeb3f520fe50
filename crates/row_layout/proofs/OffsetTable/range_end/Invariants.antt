use mathlib.Core.Path.{◌≡◌}
use lib.ListN.{length, drop}
use Rattle.laws.specs.Bytes.{from_table}
use Rattle.row_format.specs.Places.{offset_width}
use Rattle.row_format.specs.Table.{first_offset, range_end}
use Rattle.row_layout.proofs.OffsetTable.range_end.Given as goal

abbrev pub invariant-loop-k : goal.invariant-loop-k
invariant-loop-k l =
    first_offset (drop l.k (from_table (offset_width l.self.is_long) l.self.entries (drop l.self.start l.row))) (length l.row)
    ≡ range_end (offset_width l.self.is_long) l.self.start l.self.entries l.rank l.row
