-- `chars` meets its contract.
use mathlib.Core.Path.{◌≡◌, refl, sym, ◌∙◌}
use native.Mathlib.Omega.{arith}
use lib.ListN.{length}
use Rattle.text.proofs.Chunks.{chunks_of, going_start, run_end, going_next, run_here}
use Rattle.text.proofs.chars.Goals as goal

pub loop-n-init : goal.loop-n-init
loop-n-init g c = going_start c.requires.inside

pub loop-n-preserved : goal.loop-n-preserved
loop-n-preserved g c =
    let y = chunks_of c.requires.inside c.as_chunks.ensures.front in
    going_next _ _ _ (omega arith) c.requires.inside y _ c.index-chunks-n.is c.loop-n-test.true c.loop-n.invariant
    (sym c.is_char.ensures ∙ c.if-not-is_char.false)

pub returns-then-not-is_char : goal.returns-then-not-is_char
returns-then-not-is_char g c =
    let y = chunks_of c.requires.inside c.as_chunks.ensures.front in
    run_here _ _ _ (omega arith) c.requires.inside y _ c.index-chunks-n.is c.loop-n-test.true c.loop-n.invariant
    (sym c.is_char.ensures ∙ c.if-not-is_char.true)

pub returns : goal.returns
returns g c =
    let n : c.loop-n.n ≡ length c.as_chunks.result.0.now = omega arith in
    let y = chunks_of c.requires.inside c.as_chunks.ensures.front in
    run_end _ _ _ (omega arith) c.requires.inside y (rw n at c.loop-n.invariant) refl
