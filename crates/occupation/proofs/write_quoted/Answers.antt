-- `write_quoted` meets its contract.
use mathlib.Core.Path.{◌≡◌}
use native.Mathlib.Omega.{arith}
use lib.ListN.{length, length-set}
use lib.Seq.{length-sets}
use Rattle.occupation.proofs.Lines.{enclosed}
use borrow.Author.Rules.{rules}
use Rattle.occupation.proofs.write_quoted.Goals as goal

pub copy-requires : goal.copy-requires
copy-requires c = let a = c.args in rw (length-set) (omega (arith, c.requires))

pub bounds-out-at-2 : goal.bounds-out-at-2
bounds-out-at-2 c =
    let a = c.args in
    let e = c.copy.ensures in
    let n : length c.copy.new.s ≡ length a.out.now = rw (e, length-sets, length-set) in
    omega (arith, n, c.requires)

pub shape_of-out : goal.shape_of-out
shape_of-out c =
    let a = c.args in
    let e = c.copy.ensures in
    let n : length c.copy.new.s ≡ length a.out.now = rw (e, length-sets, length-set) in
    search rules

pub returns : goal.returns
returns c = let a = c.args in enclosed a.out.now a.text.now a.at c.copy.ensures
