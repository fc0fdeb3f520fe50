use Prim.Native.Nat.{◌-◌}
use Rattle.row_decode.proofs.Decoding.{Decoding}
use Rattle.row_decode.proofs.decode_columns.Given as goal

abbrev pub invariant-loop-at : goal.invariant-loop-at
invariant-loop-at l = Decoding l.schema l.layout l.packed l.row l.marks l.initial.buf l.initial.points l.buf l.points l.before l.at l.end

abbrev pub decreases-loop-at : goal.decreases-loop-at
decreases-loop-at l = 256 - l.before.num_columns
