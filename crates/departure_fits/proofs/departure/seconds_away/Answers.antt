use borrow.Author.Rules.{rules}
use mathlib.Core.Path.{◌∙◌}
use Rattle.departure_fits.proofs.Since.{as_signed, counts_near, unsigned, size}
use Rattle.departure_fits.proofs.departure.seconds_away.Goals as goal

pub delta-requires : goal.delta-requires
delta-requires c = rw (as_signed c.args.s c.ranges.s, as_signed c.args.count c.ranges.count) (counts_near c.args.s c.args.count c.ranges.s c.ranges.count)

pub overflow_cast-result : goal.overflow_cast-result
overflow_cast-result c = unsigned _ _ c.delta.ensures c.delta.type_inv

pub returns : goal.returns
returns c = let a = c.args in let f = c.ranges in size _ _ c.delta.ensures c.delta.type_inv ∙ rw (as_signed a.s f.s, as_signed a.count f.count)
