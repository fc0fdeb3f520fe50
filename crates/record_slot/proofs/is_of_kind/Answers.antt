use Prim.Native.Nat.{ℕ}
use mathlib.Core.Path.{sym, ap}
use lib.Dec.{eqb}
use Rattle.record_slot.proofs.Held.{short-plain}
use Rattle.record_slot.proofs.is_of_kind.Goals as goal

pub returns-then-given-lt-LONG_CHAR : goal.returns-then-given-lt-LONG_CHAR
returns-then-given-lt-LONG_CHAR c =
    ap (λ (k : ℕ). eqb k c.args.kind) (sym (short-plain c.args.given c.if-given-lt-LONG_CHAR.true))

pub returns : goal.returns
returns c =
    ap (λ (k : ℕ). eqb k c.args.kind) c.plain_kind.ensures
