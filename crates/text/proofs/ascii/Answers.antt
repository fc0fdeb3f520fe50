-- `ascii` meets its contract. After k turns ok tells whether the first k of the bytes are ASCII.
use mathlib.Core.Path.{◌≡◌, ◌∙◌}
use native.Mathlib.Omega.{arith}
use Rattle.text.proofs.Laws.{each_none, each_more, length-part, part_at}
use Rattle.text.proofs.ascii.Goals as goal

pub loop-b-init : goal.loop-b-init
loop-b-init c = each_none (omega arith)

pub loop-b-preserved : goal.loop-b-preserved
loop-b-preserved c =
    let l = c.loop-b in
    let a = c.args in
    let e = part_at a.s.now a.first a.n c.requires l.b-index c.loop-b-test.true in
    each_more l.invariant (c.utf8_1-ok.ensures ∙ rw e) (omega arith) (omega arith)

pub returns : goal.returns
returns c =
    let a = c.args in
    let l = length-part a.s.now a.first a.n c.requires in
    let e : c.loop-b.b-index ≡ a.n = omega arith in
    rw e at c.loop-b.invariant
