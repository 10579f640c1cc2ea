use borrow.Author.Rules.{rules}
use borrow.Author.Tests.{eq-eqb, ne_eqb}
use Rattle.journey_points.specs.Journey.{end_at}
use Rattle.journey_points.proofs.stitch.end_at.Goals as goal

pub returns-then-bit-eq0 : goal.returns-then-bit-eq0
unfolding end_at
returns-then-bit-eq0 c = rw (← c.bit.ensures, eq-eqb _ _ c.if-bit-eq0.true)

pub returns-else-bit-eq0 : goal.returns-else-bit-eq0
unfolding end_at
returns-else-bit-eq0 c = rw (← c.bit.ensures, ne_eqb _ _ c.if-bit-eq0.false, c.point_at.ensures)
