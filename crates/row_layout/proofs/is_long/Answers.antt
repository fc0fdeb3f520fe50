use mathlib.Core.Path.{sym, ◌∙◌, ap}
use Prim.Native.Nat.{ℕ, ◌%◌}
use lib.Dec.{leb}
use Rattle.row_format.proofs.Header.{short-sort, sort_of_lem}
use Rattle.row_layout.proofs.is_long.Goals as goal

pub returns-then-row-lt4 : goal.returns-then-row-lt4
returns-then-row-lt4 c = sym (short-sort _ c.if-row-lt4.true)

pub returns : goal.returns
returns c = ap (λ (x : ℕ). leb 16384 (x % 32768)) c.read_u16-field.ensures ∙ sym (sort_of_lem _ c.if-row-lt4.false)
