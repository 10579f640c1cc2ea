-- the trips from k on, after those so far, are all
use Rattle.filled_trips.proofs.Among.{Each}
use Rattle.trip_backfill.proofs.trips.backfill_each.Given as goal

abbrev pub invariant-loop-k : goal.invariant-loop-k
invariant-loop-k l = Each l.lent.bytes.now l.lent.words.now l.lent.reals.now l.t l.a l.e l.initial.dist l.initial.measured l.dist l.measured l.k
