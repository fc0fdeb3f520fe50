use borrow.Author.Rules.{rules}
use mathlib.Core.Path.{ap}
use Prim.Native.Nat.{ℕ, ◌^◌}
use lib.Dec.{ltb}
use Rattle.laws.proofs.Table.{table_rule}
use Rattle.numeric.proofs.has_digits.Goals as goal

pub returns : goal.returns
returns c = ap (λ (x : ℕ). ltb c.args.n x) (table_rule (λ k. 10 ^ k) 39 c.args.p (search rules))
