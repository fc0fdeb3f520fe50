use native.Mathlib.Omega.{arith}
use Rattle.row_layout.proofs.write_offset.Goals as goal

pub overflow_cast-offset : goal.overflow_cast-offset
overflow_cast-offset c = let h = rw c.if-is_long.true at c.requires.1 in omega arith

pub write_u32-requires : goal.write_u32-requires
write_u32-requires c = rw c.if-is_long.true at c.requires.0

pub overflow_cast-offset-else-is_long : goal.overflow_cast-offset-else-is_long
overflow_cast-offset-else-is_long c = let h = rw c.if-is_long.false at c.requires.1 in omega arith

pub write_u16-requires : goal.write_u16-requires
write_u16-requires c = rw c.if-is_long.false at c.requires.0

pub returns-then-is_long : goal.returns-then-is_long
returns-then-is_long c = rw c.if-is_long.true c.write_u32.ensures

pub returns-else-is_long : goal.returns-else-is_long
returns-else-is_long c = rw c.if-is_long.false c.write_u16.ensures
