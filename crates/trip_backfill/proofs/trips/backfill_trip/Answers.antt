use borrow.Author.Rules.{rules}
use Rattle.trip_backfill.proofs.trips.backfill_trip.Goals as goal

pub returns : goal.returns
returns c =
    record { result_value = c.backfill_between.ensures.result_value; dist_after = rw c.end_of-e.ensures at c.backfill_between.ensures.dist_after; measured_after = rw c.end_of-e.ensures at c.backfill_between.ensures.measured_after }
