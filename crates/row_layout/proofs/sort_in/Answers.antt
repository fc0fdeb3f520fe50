use mathlib.Core.Path.{sym, ◌∙◌}
use lib.Seq.{length-take-le}
use Rattle.row_format.proofs.Header.{sort-inside, sort-past}
use Rattle.row_layout.proofs.sort_in.Goals as goal

pub returns-then-buf-n : goal.returns-then-buf-n
returns-then-buf-n c = sym (sort-past _ _ c.if-buf-n.true)

pub slice_bounds-is_long-end : goal.slice_bounds-is_long-end
slice_bounds-is_long-end c = sym (length-take-le _ _ c.if-buf-n.false)

pub returns : goal.returns
returns c = c.is_long.ensures ∙ sym (sort-inside _ _ c.if-buf-n.false)
