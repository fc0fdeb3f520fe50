use Rattle.value_list.proofs.Records.{record_short, inside_narrow}
use native.Mathlib.Omega.{arith}
use Rattle.error.proofs.Results.{handed_on}
use Rattle.column_decode.proofs.write_column.Goals as goal

pub write_value_record-requires : goal.write_value_record-requires
write_value_record-requires c =
    let s = record_short c.args.is_long c.in_ok-v.v in
    (omega arith, inside_narrow c.args.is_long c.in_ok-v.v (rw c.in_ok-v.was at c.requires.1))

pub returns : goal.returns
returns c =
    let w = c.write_value_record.ensures in
    rw (c.in_ok-v.was, w.0, w.1)

pub returns-in_err-v : goal.returns-in_err-v
returns-in_err-v c =
    rw (handed_on c.from_residual.result c.from_residual.ensures)
    (rw c.in_err-v.was)
