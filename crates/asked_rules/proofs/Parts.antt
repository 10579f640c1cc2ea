-- What is so of each part that is asked of where no cause of it is there. A number after `at` is a cause's place in the part's list.
-- `Rattle.verdicts.proofs.Facts` has what each kind of fact says, and `counted` for the part's columns and counts.
use Prim.Native.Nat.{ℕ}
use mathlib.Core.Bool.{false}
use lib.IntN.{pos, negsuc}
use lib.ListN.{drop, length}
use Rattle.tables.specs.Pools.{Pools}
use Rattle.tables.specs.Marks.{always, where_set}
use Rattle.tables.specs.declared.bounds.Bounds.{Bounds}
use Rattle.tables.specs.declared.lent.Journey.{Journey}
use Rattle.tables.specs.declared.lent.LegAsked.{LegAsked}
use Rattle.tables.specs.declared.lent.Service.{Service}
use Rattle.verdicts.proofs.Passed.{Clear, clear_drop, clear_part}
use Rattle.verdicts.proofs.Facts.{Between, moments, offsets, Dates, dates, IdsHold, ids_hold, Sized, counted}
use Rattle.asked_rules.specs.Parts.{journey_causes, service_causes, leg_asked_causes}

module _ (p : Pools) where
  module _ (b : Bounds) (j : Journey) (h : Clear p (journey_causes b j)) where
    at_journey : (k : ℕ) → Clear p (drop k (journey_causes b j))
    at_journey = clear_drop p (journey_causes b j) h

    pub journey_key : IdsHold p j.key always false 1 b.id
    journey_key = ids_hold p _ _ _ _ _ (clear_part p (journey_causes b j) h 0 4)

    pub journey_route : IdsHold p j.route (where_set j.routed) false 1 b.id
    journey_route = ids_hold p _ _ _ _ _ (clear_part p (journey_causes b j) h 4 4)

    pub journey_departure : Sized (length p.times) j.departure 1
    journey_departure = (counted p (drop 9 (journey_causes b j)) (at_journey 9)).0

    pub journey_departs : Sized (length p.bytes) j.departs 1
    journey_departs = (counted p (drop 10 (journey_causes b j)) (at_journey 10)).0

    pub journey_offset : Sized (length p.times) j.offset 1
    journey_offset = (counted p (drop 11 (journey_causes b j)) (at_journey 11)).0

    pub journey_departure_between : Between p j.departure (where_set j.departs) 1 (pos 0) (pos 4102444799)
    journey_departure_between = moments p _ _ _ (at_journey 9).0 (at_journey 12).0

    pub journey_offset_between : Between p j.offset always 1 (negsuc 50399) (pos 50400)
    journey_offset_between = offsets p _ always _ (at_journey 11).0 (at_journey 13).0

  module _ (b : Bounds) (s : Service) (h : Clear p (service_causes b s)) where
    at_service : (k : ℕ) → Clear p (drop k (service_causes b s))
    at_service = clear_drop p (service_causes b s) h

    pub service_feed : IdsHold p s.feed always false 1 b.id
    service_feed = ids_hold p _ _ _ _ _ (clear_part p (service_causes b s) h 0 4)

    pub service_id : IdsHold p s.service always false 1 b.id
    service_id = ids_hold p _ _ _ _ _ (clear_part p (service_causes b s) h 4 4)

    pub service_date : Dates p s.date 1
    service_date = dates p _ _ (at_service 8).0 (at_service 9).0

  module _ (b : Bounds) (l : LegAsked) (h : Clear p (leg_asked_causes b l)) where
    pub leg_trip : IdsHold p l.trip always false 1 b.id
    leg_trip = ids_hold p _ _ _ _ _ (h)
