-- `past_ones` meets its contract.
use Rattle.text.proofs.Runs.{ascii_then, ascii-done}
use Rattle.text.proofs.past_ones.Goals as goal

pub returns-then-n-first-lt8 : goal.returns-then-n-first-lt8
returns-then-n-first-lt8 c = let a = c.ascii_bytes.ensures in ascii-done _ _ a.ascii a.over

pub returns-then-near-first : goal.returns-then-near-first
returns-then-near-first c =
    let a = c.ascii_bytes-near.ensures in
    ascii-done _ _ a.ascii (λ l. a.over c.if-near-first.true)

pub returns : goal.returns
returns c =
    let near = c.ascii_bytes-near.ensures.ascii in
    let far = ascii_then c.ascii_blocks.ensures c.ascii_blocks-far.ensures in
    let a = c.ascii_bytes-2.ensures in
    ascii-done _ _ (ascii_then near (ascii_then far a.ascii)) a.over
