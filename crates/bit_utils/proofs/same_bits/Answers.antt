use Rattle.bit_utils.proofs.Comparing.{same_whole, same_none, same-part}
use Rattle.laws.proofs.Bytes.{all-below}
use borrow.Author.Tests.{eq-eqb}
use mathlib.Core.Path.{sym, ◌∙◌}
use Prim.Native.Nat.{◌%◌}
use Rattle.bit_utils.proofs.same_bits.Goals as goal

pub returns-then-used-eq0 : goal.returns-then-used-eq0
returns-then-used-eq0 c =
    let a = c.args in
    eq-eqb (a.n % 8) 0 c.if-used-eq0.true ∙ sym c.if-same_bytes.true ∙ c.same_bytes.ensures ∙ same_whole a.n a.a.now a.b.now (all-below a.a.now c.shared_slice_known-1.given) (all-below a.b.now c.shared_slice_known-2-1.given) c.requires.0 c.requires.1 c.if-used-eq0.true

pub returns-else-used-eq0 : goal.returns-else-used-eq0
returns-else-used-eq0 c =
    let a = c.args in
    rw (c.high_bits.ensures, c.high_bits-else-used-eq0.ensures) (same-part a.n a.a.now a.b.now (all-below a.a.now c.shared_slice_known-1.given) (all-below a.b.now c.shared_slice_known-2-1.given) c.requires.0 c.requires.1 c.if-used-eq0.false (sym c.same_bytes.ensures ∙ c.if-same_bytes.true))

pub returns-else-same_bytes : goal.returns-else-same_bytes
returns-else-same_bytes c =
    let a = c.args in
    c.if-same_bytes.false ∙ same_none a.n a.a.now a.b.now (all-below a.a.now c.shared_slice_known-1.given) (all-below a.b.now c.shared_slice_known-2-1.given) c.requires.0 c.requires.1 (sym c.same_bytes.ensures ∙ c.if-same_bytes.false)
