use borrow.Author.Tests.{eq-eqb, ne_eqb}
use Rattle.row_sound.proofs.row_sound.Goals as goal

pub returns-then-first_payload-min_row_size : goal.returns-then-first_payload-min_row_size
returns-then-first_payload-min_row_size c = rw (← c.columns_sound.ensures, c.if-columns_sound.true, ← c.first_payload.ensures, ← c.min_row_size.ensures, eq-eqb _ _ c.if-first_payload-min_row_size.true)

pub returns-else-first_payload-min_row_size : goal.returns-else-first_payload-min_row_size
returns-else-first_payload-min_row_size c = rw (← c.columns_sound.ensures, c.if-columns_sound.true, ← c.first_payload.ensures, ← c.min_row_size.ensures, ne_eqb _ _ c.if-first_payload-min_row_size.false)

pub returns-else-columns_sound : goal.returns-else-columns_sound
returns-else-columns_sound c = rw (← c.columns_sound.ensures, c.if-columns_sound.false)
