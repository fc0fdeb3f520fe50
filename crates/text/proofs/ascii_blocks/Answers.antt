-- `ascii_blocks` meets its contract. The bytes from first to i are ASCII.
use native.Mathlib.Omega.{arith}
use Rattle.text.proofs.Runs.{ascii-none, ascii_join}
use Rattle.text.proofs.ascii_blocks.Goals as goal

pub loop-i-init : goal.loop-i-init
loop-i-init c = ascii-none c.requires.1

pub returns-then-not-ascii : goal.returns-then-not-ascii
returns-then-not-ascii c = c.loop-i.invariant

pub loop-i-preserved : goal.loop-i-preserved
loop-i-preserved c =
    let f = c.ascii.ensures.0 (c.if-not-ascii.false) in
    ascii_join c.loop-i.invariant f (omega arith) (omega arith) (omega arith) (omega arith)

pub returns : goal.returns
returns c = c.loop-i.invariant
