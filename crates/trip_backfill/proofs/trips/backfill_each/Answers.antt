use Rattle.filled_trips.proofs.Among.{each_starts, each_on, each_ends}
use Rattle.trip_backfill.proofs.trips.backfill_each.Goals as goal

pub loop-k-init : goal.loop-k-init
loop-k-init c = each_starts _ _ _ _ _ _ _ _ c.requires

pub loop-k-preserved : goal.loop-k-preserved
loop-k-preserved c = each_on _ _ _ _ _ _ _ _ c.loop-k.invariant c.loop-k-test.true c.backfill_in.ensures.dist_after c.backfill_in.ensures.measured_after

pub returns : goal.returns
returns c = let e = each_ends _ _ _ _ _ _ _ _ c.loop-k.invariant c.loop-k-test.false in record { dist_after = e.0; measured_after = e.1 }
