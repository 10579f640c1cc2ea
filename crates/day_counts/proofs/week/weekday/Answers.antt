-- `day_counts::week::weekday` meets its contract: seven and three more than the machine's rest is not negative.
use mathlib.Core.Path.{ap}
use native.Mathlib.Omega.{arith}
use lib.IntN.{nat_abs}
use Rattle.day_counts.proofs.Signed.{quot_fits}
use Rattle.day_counts.proofs.Weekdays.{ahead, ahead_fits, weekday_read, weekday_small}
use Rattle.day_counts.proofs.week.weekday.Goals as goal

pub nonzero_rem-result : goal.nonzero_rem-result
nonzero_rem-result c = (omega arith, quot_fits 7 c.args.day c.ranges.day)

pub overflow_add-result : goal.overflow_add-result
overflow_add-result c = ahead_fits c.args.day c.ranges.day

pub nonzero_rem-result-2 : goal.nonzero_rem-result-2
nonzero_rem-result-2 c = (omega arith, quot_fits 7 (ahead c.args.day c.ranges.day) (ahead_fits c.args.day c.ranges.day))

pub overflow_cast-result : goal.overflow_cast-result
overflow_cast-result c = rw (weekday_read c.args.day c.ranges.day) (tt, record { fits = omega (arith, weekday_small c.args.day) })

pub returns : goal.returns
returns c = ap nat_abs (weekday_read c.args.day c.ranges.day)
