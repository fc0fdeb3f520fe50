use Rattle.laws.proofs.Truths.{or_none}
use Rattle.row_same.proofs.same_ranges.Goals as goal

pub returns : goal.returns
returns c =
    let a = c.args in
    let short = or_none a.layout.is_long a.other.is_long c.if-layout-other.false in
    let first = rw (c.offset_table.ensures, c.of_sort.ensures) at c.varlen_range-first.ensures.0 in
    let second = rw (c.offset_table-2.ensures, c.of_sort-2.ensures) at c.varlen_range-second.ensures.0 in
    rw (short.0, short.1, ← first, ← second) c.alike_ranges.ensures
