-- For the proofs: a rank has an entry in a table that lies in the row, and a range lies in the row.
use Rattle.std.specs.Prelude.{ℕ, ◌+◌, ◌*◌, ◌≤◌, ◌<◌, List, length}
use Rattle.row_format.specs.Places.{offset_width}
use Rattle.row_layout.specs.declared.OffsetTable.{OffsetTable}
use Rattle.row_layout.specs.declared.VarlenRange.{VarlenRange}
use Rattle.row_layout.specs.declared.VarlenRange.TheVariants.{Null, Bytes, Outside}

abbrev pub HasEntry : OffsetTable → ℕ → List ℕ → Type 0
HasEntry t k r = (k < t.entries) × (t.start + t.entries * offset_width t.is_long ≤ length r)

abbrev pub Inside : List ℕ → VarlenRange → Type 0
Inside r Null = Unit {0}
Inside r (Bytes a e) = (a ≤ e) × (e ≤ length r)
Inside r Outside = Unit {0}
