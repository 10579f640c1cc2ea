-- `trip_backfill::trips::copy` meets its contract. The loop's invariant: the first k are copied.
use Rattle.trip_backfill.proofs.Copying.{Copied}
use Rattle.trip_backfill.proofs.trips.copy.Given as goal

abbrev pub invariant-loop-k : goal.invariant-loop-k
invariant-loop-k g l = Copied l.from l.initial.to l.to l.k
