use borrow.Author.Tests.{lt-ltb, le-ltb}
use Rattle.row_same.proofs.same_stored.Goals as goal

pub returns-then-column_bit_is_set : goal.returns-then-column_bit_is_set
returns-then-column_bit_is_set c =
    rw (← c.column_bit_is_set.ensures, c.if-column_bit_is_set.true) c.column_bit_is_set-then-column_bit_is_set.ensures

pub returns-then-column_bit_is_set-2 : goal.returns-then-column_bit_is_set-2
returns-then-column_bit_is_set-2 c =
    rw (← c.column_bit_is_set.ensures, c.if-column_bit_is_set.false, ← c.column_bit_is_set-2.ensures, c.if-column_bit_is_set-2.true)

pub same_ranges-requires : goal.same_ranges-requires
same_ranges-requires c =
    let p = c.requires in
    let h = c.if-rank-after.true in (
      record { whole = p.0.whole; table = p.0.table; rank = p.0.rank h },
      record { whole = p.1.whole; table = p.1.table; rank = p.1.rank h },
    )

pub returns-then-rank-after : goal.returns-then-rank-after
returns-then-rank-after c =
    rw (
      ← c.column_bit_is_set.ensures,
      c.if-column_bit_is_set.false,
      ← c.column_bit_is_set-2.ensures,
      c.if-column_bit_is_set-2.false,
      lt-ltb _ _ c.if-rank-after.true,
    )
    c.same_ranges.ensures

pub returns-else-rank-after : goal.returns-else-rank-after
returns-else-rank-after c =
    rw (
      ← c.column_bit_is_set.ensures,
      c.if-column_bit_is_set.false,
      ← c.column_bit_is_set-2.ensures,
      c.if-column_bit_is_set-2.false,
      le-ltb _ _ c.if-rank-after.false,
    )
    c.same_slots.ensures
