use Rattle.laws.proofs.Tests.{by_tests}
use Rattle.row_column.proofs.check_frame.Goals as goal

pub returns-then-row_limit-row : goal.returns-then-row_limit-row
returns-then-row_limit-row c = rw (← c.row_limit.ensures.0) (search by_tests)

pub returns-then-row-lt4 : goal.returns-then-row-lt4
returns-then-row-lt4 c = rw (← c.row_limit.ensures.0) (search by_tests)

pub returns-then-columns-layout : goal.returns-then-columns-layout
returns-then-columns-layout c = rw (← c.row_limit.ensures.0, ← c.read_u16-field.ensures, ← c.read_u16-columns.ensures) (search by_tests)

pub returns-then-varlen_count-layout : goal.returns-then-varlen_count-layout
returns-then-varlen_count-layout c = rw (← c.row_limit.ensures.0, ← c.read_u16-field.ensures, ← c.read_u16-columns.ensures, ← c.varlen_count.ensures) (search by_tests)

pub returns-then-row-min_row_size : goal.returns-then-row-min_row_size
returns-then-row-min_row_size c = rw (← c.row_limit.ensures.0, ← c.read_u16-field.ensures, ← c.read_u16-columns.ensures, ← c.varlen_count.ensures, ← c.min_row_size.ensures) (search by_tests depth 9)

pub returns : goal.returns
returns c = rw (← c.row_limit.ensures.0, ← c.read_u16-field.ensures, ← c.read_u16-columns.ensures, ← c.varlen_count.ensures, ← c.min_row_size.ensures) (search by_tests depth 9)
