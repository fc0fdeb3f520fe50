use borrow.Author.Rules.{rules}
use Rattle.row_sound.proofs.Slots.{so_many}
use mathlib.Core.Path.{refl}
use Prim.Native.Nat.{◌+◌}
use Rattle.row_sound.proofs.char_sound.Goals as goal

pub overflow_add-start : goal.overflow_add-start
overflow_add-start c = let h = rw (← c.slot_start.ensures, ← c.fixed_data_start.ensures.0) at (c.requires.slot refl) in search rules

pub overflow_add-start-2 : goal.overflow_add-start-2
overflow_add-start-2 c = let h = rw (← c.slot_start.ensures, ← c.fixed_data_start.ensures.0) at (c.requires.slot refl) in search rules

pub slice_bounds-is_valid-end : goal.slice_bounds-is_valid-end
slice_bounds-is_valid-end c = let h = rw (← c.slot_start.ensures, ← c.fixed_data_start.ensures.0) at (c.requires.slot refl) in search rules

pub returns : goal.returns
returns c = rw (← c.slot_start.ensures, ← c.fixed_data_start.ensures.0) (rw (so_many (c.fixed_data_start.result + c.slot_start.result) c.args.n) at c.is_valid.ensures)
