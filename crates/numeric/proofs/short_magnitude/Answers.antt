use Prim.Native.Nat.{◌-◌}
use native.Mathlib.Omega.{arith}
use Rattle.numeric.proofs.Reading.{window_start, window_more, window_bad, window_end, short-fits}
use Rattle.numeric.proofs.short_magnitude.Goals as goal

pub loop-k-init : goal.loop-k-init
loop-k-init c = window_start _ _ _

pub returns-then-digit-gt9 : goal.returns-then-digit-gt9
returns-then-digit-gt9 c =
    let a = c.args in
    window_bad a.bytes.now a.from a.to c.requires.1.1 c.loop-k.invariant c.loop-k.auto.k c.loop-k-test.true c.nibble_at-digit.ensures c.if-digit-gt9.true

pub overflow_mul-n : goal.overflow_mul-n
overflow_mul-n c =
    let l = c.loop-k in
    let h = short-fits l.n (l.k - c.args.from) l.invariant.small (omega arith) in
    omega arith

pub overflow_add-n : goal.overflow_add-n
overflow_add-n c =
    let l = c.loop-k in
    let h = short-fits l.n (l.k - c.args.from) l.invariant.small (omega arith) in
    omega arith

pub loop-k-preserved : goal.loop-k-preserved
loop-k-preserved c =
    let a = c.args in
    window_more a.bytes.now a.from a.to c.requires.1.1 c.loop-k.invariant c.loop-k.auto.k c.loop-k-test.true c.nibble_at-digit.ensures c.if-digit-gt9.false

pub returns : goal.returns
returns c =
    let a = c.args in
    window_end a.bytes.now a.from a.to c.requires.1.1 c.loop-k.invariant c.loop-k.auto.k c.loop-k-test.false
