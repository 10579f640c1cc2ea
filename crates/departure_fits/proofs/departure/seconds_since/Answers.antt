use borrow.Author.Rules.{rules}
use mir.Facts.{to_z-of_z}
use Rattle.departure_fits.proofs.Since.{as_signed, since_fits}
use Rattle.departure_fits.proofs.departure.seconds_since.Goals as goal

pub overflow_sub-result : goal.overflow_sub-result
overflow_sub-result c = rw (as_signed c.args.s c.ranges.s, as_signed c.args.count c.ranges.count) (since_fits c.args.s c.args.count c.ranges.s c.ranges.count)

pub returns : goal.returns
returns c = rw (as_signed c.args.s c.ranges.s, as_signed c.args.count c.ranges.count) (to_z-of_z (since_fits c.args.s c.args.count c.ranges.s c.ranges.count))
