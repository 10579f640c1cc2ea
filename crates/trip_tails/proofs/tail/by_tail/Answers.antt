use borrow.Author.Tests.{eq-eqb, ne_eqb}
use Rattle.trip_tails.specs.Tails.{tail_trip}
use Rattle.trip_tails.proofs.tail.by_tail.Goals as goal

pub returns-then-tail-eq0 : goal.returns-then-tail-eq0
unfolding tail_trip
returns-then-tail-eq0 c = rw (rw c.tail-tail.ensures at (eq-eqb _ _ c.if-tail-eq0.true))

pub returns : goal.returns
unfolding tail_trip
returns c = rw (c.only_trip.ensures, c.tail-tail.ensures, rw c.tail-tail.ensures at (ne_eqb _ _ c.if-tail-eq0.false))
