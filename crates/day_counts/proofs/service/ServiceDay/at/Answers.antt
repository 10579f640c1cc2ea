-- `day_counts::service::ServiceDay::at` meets its contract: where the machine's rest is negative, the floor lies one lower.
use native.Mathlib.Omega.{arith}
use Rattle.day_counts.proofs.Signed.{quot_fits}
use Rattle.day_counts.proofs.ServiceDays.{day_fits, second_fits, moved, kept, told}
use Rattle.day_counts.proofs.service.ServiceDay.at.Goals as goal

pub nonzero_div-day : goal.nonzero_div-day
nonzero_div-day c = (omega arith, quot_fits 86400 c.args.local c.ranges.local)

pub nonzero_rem-second : goal.nonzero_rem-second
nonzero_rem-second c = (omega arith, quot_fits 86400 c.args.local c.ranges.local)

pub overflow_sub-result : goal.overflow_sub-result
overflow_sub-result c = day_fits c.args.local c.ranges.local c.if-second-lt0.true

pub overflow_add-result : goal.overflow_add-result
overflow_add-result c = second_fits c.args.local c.ranges.local c.if-second-lt0.true

pub returns-then-second-lt0 : goal.returns-then-second-lt0
returns-then-second-lt0 c = record { value = (told c.args.local _ (moved c.args.local c.ranges.local c.if-second-lt0.true)).0; splits = (told c.args.local _ (moved c.args.local c.ranges.local c.if-second-lt0.true)).1 }

pub returns : goal.returns
returns c = record { value = (told c.args.local _ (kept c.args.local c.ranges.local c.if-second-lt0.false)).0; splits = (told c.args.local _ (kept c.args.local c.ranges.local c.if-second-lt0.false)).1 }
