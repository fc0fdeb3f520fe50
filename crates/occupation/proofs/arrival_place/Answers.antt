use Rattle.occupation.proofs.arrival_place.Goals as goal

pub returns-then-is_long : goal.returns-then-is_long
returns-then-is_long c = rw c.if-is_long.true

pub returns-else-is_long : goal.returns-else-is_long
returns-else-is_long c = rw c.if-is_long.false
