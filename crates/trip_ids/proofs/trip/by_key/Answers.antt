use borrow.Author.Rules.{rules}
use Rattle.trip_ids.specs.Trips.{trip_of}
use Rattle.trip_ids.proofs.trip.by_key.Goals as goal

pub returns : goal.returns
unfolding trip_of
returns c = rw (c.trip_at.ensures, c.find.ensures)
