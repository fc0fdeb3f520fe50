use Rattle.row_build.proofs.Nulls.{last_fits, bits_whole, bits_more}
use native.Mathlib.Omega.{arith}
use Prim.Native.Nat.{◌%◌}
use Rattle.row_build.proofs.write_null_bits.Goals as goal

pub overflow_sub-out : goal.overflow_sub-out
overflow_sub-out c = last_fits (c.args.n % 8) (omega arith)

pub returns-then-rest-ne0 : goal.returns-then-rest-ne0
returns-then-rest-ne0 c =
    bits_more c.args.out.now c.args.at c.args.n c.fill.ensures c.if-rest-ne0.true

pub returns-else-rest-ne0 : goal.returns-else-rest-ne0
returns-else-rest-ne0 c =
    bits_whole c.args.out.now c.args.at c.args.n c.fill.ensures c.if-rest-ne0.false
