use Rattle.row_same.proofs.long_ranges.Goals as goal

pub returns : goal.returns
returns c =
    let first = rw c.offset_table.ensures at c.varlen_range-first.ensures.0 in
    let second = rw c.offset_table-2.ensures at c.varlen_range-second.ensures.0 in
    rw (← first, ← second) c.alike_ranges.ensures
