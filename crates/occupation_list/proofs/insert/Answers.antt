use mathlib.Core.Path.{ap, ◌∙◌}
use mathlib.Core.List.{List}
use Prim.Native.Nat.{ℕ}
use lib.ListN.{set}
use Rattle.occupation_list.proofs.Insertion.{moved}
use Rattle.occupation_list.proofs.insert.Goals as goal

pub returns : goal.returns
returns c =
    let a = c.args in
    ap (λ (l : List ℕ). set l a.p a.at) (c.copy_within.ensures.after ∙ moved a.order.now a.k a.p c.requires.0 c.requires.1)
