-- What is so of the trips where no cause of them is there. A number after `at` is a cause's place in the list.
-- `Rattle.verdicts.proofs.Facts` has what each kind of fact says, and `counted` for the table's columns and counts.
use Prim.Native.Nat.{ℕ}
use mathlib.Core.Bool.{false}
use lib.ListN.{drop}
use Rattle.tables.specs.Pools.{Pools}
use Rattle.tables.specs.Marks.{always}
use Rattle.tables.specs.declared.bounds.Bounds.{Bounds}
use Rattle.tables.specs.declared.lent.Trips.{Trips}
use Rattle.verdicts.proofs.Passed.{Clear, clear_drop, clear_part}
use Rattle.verdicts.proofs.Facts.{RangesWithin, ranges_within, IdsHold, ids_hold}
use Rattle.trip_rules.specs.Parts.{trips_causes}

module _ (p : Pools) where
  module _ (b : Bounds) (t : Trips) (rows : ℕ) (h : Clear p (trips_causes b t rows)) where
    pub at_trips : (k : ℕ) → Clear p (drop k (trips_causes b t rows))
    at_trips = clear_drop p (trips_causes b t rows) h

    pub trip_rows_within : RangesWithin p t.first t.count t.first.n rows
    trip_rows_within = ranges_within p _ _ _ _ (at_trips 0).0 (at_trips 1).0 (at_trips 6).0

    pub trip_feeds : IdsHold p t.feed always false t.first.n b.id
    trip_feeds = ids_hold p _ _ _ _ _ (clear_part p (trips_causes b t rows) h 7 4)

    pub trip_services : IdsHold p t.service always false t.first.n b.id
    trip_services = ids_hold p _ _ _ _ _ (clear_part p (trips_causes b t rows) h 11 4)
