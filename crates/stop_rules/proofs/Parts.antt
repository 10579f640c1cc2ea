-- What is so of the stops where no cause of them is there. A number after `at` is a cause's place in the list.
-- `Rattle.verdicts.proofs.Facts` has what each kind of fact says, and `counted` for the table's columns and counts.
use Prim.Native.Nat.{ℕ}
use mathlib.Core.Bool.{true, false}
use lib.ListN.{drop}
use Rattle.tables.specs.Pools.{Pools}
use Rattle.tables.specs.Marks.{always, where_set}
use Rattle.tables.specs.declared.bounds.Bounds.{Bounds}
use Rattle.tables.specs.declared.lent.Stops.{Stops}
use Rattle.verdicts.proofs.Passed.{Clear, clear_drop, clear_part}
use Rattle.verdicts.proofs.Facts.{OnGlobe, on_the_globe, IdsHold, ids_hold}
use Rattle.stop_rules.specs.Parts.{stops_causes}

module _ (p : Pools) where
  module _ (b : Bounds) (s : Stops) (h : Clear p (stops_causes b s)) where
    at_stops : (k : ℕ) → Clear p (drop k (stops_causes b s))
    at_stops = clear_drop p (stops_causes b s) h

    pub stops_on_globe : OnGlobe p s.lat s.lon (where_set s.positioned) s.lat.n
    stops_on_globe = on_the_globe p _ _ _ _ (at_stops 0).0 (at_stops 1).0 (at_stops 4).0

    pub own_ids : IdsHold p s.own always false s.lat.n b.id
    own_ids = ids_hold p _ _ _ _ _ (clear_part p (stops_causes b s) h 5 4)

    pub raw_ids : IdsHold p s.raw always true s.lat.n b.id
    raw_ids = ids_hold p _ _ _ _ _ (clear_part p (stops_causes b s) h 9 4)
