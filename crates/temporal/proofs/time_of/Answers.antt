use native.Mathlib.Omega.{arith}
use Rattle.temporal.proofs.Counts.{quot_asked, rest_read, seconds-read, negative_rest, late, rest_cast, count_fits, count-signed, in_day}
use Rattle.temporal.proofs.time_of.Goals as goal

pub nonzero_rem-rest : goal.nonzero_rem-rest
nonzero_rem-rest c = (omega arith, quot_asked c.args.micros c.ranges.micros)

pub returns-then-rest-lt0 : goal.returns-then-rest-lt0
returns-then-rest-lt0 c =
    negative_rest c.args.micros c.ranges.micros _ (rest_read c.args.micros c.ranges.micros) c.if-rest-lt0.true

pub nonzero_div-micros : goal.nonzero_div-micros
nonzero_div-micros c = (omega arith, quot_asked c.args.micros c.ranges.micros)

pub returns-then-seconds-ge86400 : goal.returns-then-seconds-ge86400
returns-then-seconds-ge86400 c =
    late c.args.micros c.ranges.micros _ (rest_read c.args.micros c.ranges.micros) c.if-rest-lt0.false c.low_32-seconds.result (seconds-read c.args.micros c.ranges.micros c.low_32-seconds.ensures) c.if-seconds-ge86400.true

pub overflow_cast-count : goal.overflow_cast-count
overflow_cast-count c =
    rest_cast c.args.micros c.ranges.micros _ (rest_read c.args.micros c.ranges.micros) c.if-rest-lt0.false

pub overflow_add-count : goal.overflow_add-count
overflow_add-count c =
    rw c.from.ensures
    (count_fits c.args.micros c.ranges.micros _ (rest_read c.args.micros c.ranges.micros) c.if-rest-lt0.false c.low_32-seconds.result (seconds-read c.args.micros c.ranges.micros c.low_32-seconds.ensures) c.if-seconds-ge86400.false)

pub overflow_cast-result : goal.overflow_cast-result
overflow_cast-result c =
    rw c.from.ensures
    (count-signed c.args.micros c.ranges.micros _ (rest_read c.args.micros c.ranges.micros) c.if-rest-lt0.false c.low_32-seconds.result (seconds-read c.args.micros c.ranges.micros c.low_32-seconds.ensures) c.if-seconds-ge86400.false)

pub returns : goal.returns
returns c =
    rw c.from.ensures
    (in_day c.args.micros c.ranges.micros _ (rest_read c.args.micros c.ranges.micros) c.if-rest-lt0.false c.low_32-seconds.result (seconds-read c.args.micros c.ranges.micros c.low_32-seconds.ensures) c.if-seconds-ge86400.false)
