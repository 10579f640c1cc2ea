-- What is so of each part of the stop times, and of the trips' shapes, where no cause of it is there. A number after `at` is a cause's place in the part's list.
-- `Rattle.verdicts.proofs.Facts` has what each kind of fact says, and `counted` for the part's columns and counts.
use Prim.Native.Nat.{ℕ}
use lib.ListN.{drop}
use Rattle.tables.specs.Pools.{Pools}
use Rattle.tables.specs.Marks.{always, where_set}
use Rattle.tables.specs.declared.bounds.Bounds.{Bounds}
use Rattle.tables.specs.declared.lent.StopTimes.{StopTimes}
use Rattle.tables.specs.declared.lent.Trips.{Trips}
use Rattle.verdicts.proofs.Passed.{Clear, clear_drop}
use Rattle.verdicts.proofs.Facts.{Below, below, Finite, finite}
use Rattle.trip_rules.specs.Parts.{trips_causes}
use Rattle.trip_rules.proofs.Parts.{at_trips}
use Rattle.schedule_rules.specs.Parts.{calls_causes, placing_causes, call_times_causes}

module _ (p : Pools) where
  module _ (b : Bounds) (c : StopTimes) (h : Clear p (calls_causes b c)) where
    at_calls : (k : ℕ) → Clear p (drop k (calls_causes b c))
    at_calls = clear_drop p (calls_causes b c) h

  module _ (b : Bounds) (t : Trips) (c : StopTimes) (rows shapes stops : ℕ) (g : Clear p (trips_causes b t rows)) (k : Clear p (calls_causes b c)) (h : Clear p (placing_causes t c shapes stops)) where
    at_placing : (k : ℕ) → Clear p (drop k (placing_causes t c shapes stops))
    at_placing = clear_drop p (placing_causes t c shapes stops) h

    pub trip_shapes_below : Below p t.shape (where_set t.shaped) t.first.n shapes
    trip_shapes_below = below p _ _ _ _ (at_trips p b t rows g 2).0 (at_placing 0).0

    pub call_stops_below : Below p c.stop always c.stop.n stops
    call_stops_below = below p _ _ _ _ (at_calls b c k 0).0 (at_placing 1).0

    pub call_dists_finite : Finite p c.dist (where_set c.measured) c.stop.n
    call_dists_finite = finite p _ _ _ (at_calls b c k 4).0 (at_placing 2).0

  module _ (b : Bounds) (c : StopTimes) (k : Clear p (calls_causes b c)) (h : Clear p (call_times_causes c)) where
    at_call_times : (k : ℕ) → Clear p (drop k (call_times_causes c))
    at_call_times = clear_drop p (call_times_causes c) h

    pub call_arrivals_below : Below p c.arrival always c.stop.n 604800
    call_arrivals_below = below p _ _ _ _ (at_calls b c k 2).0 (at_call_times 0).0

    pub call_departures_below : Below p c.departure always c.stop.n 604800
    call_departures_below = below p _ _ _ _ (at_calls b c k 3).0 (at_call_times 1).0
