-- What is so of the updates and of the sailing where no cause of it is there. A number after `at` is a cause's place in the part's list.
-- `Rattle.verdicts.proofs.Facts` has what each kind of fact says, and `counted` for the part's columns and counts.
use Prim.Native.Nat.{ℕ, ◌<◌}
use mathlib.Core.Bool.{false}
use lib.IntN.{pos, negsuc}
use lib.ListN.{drop}
use Rattle.ids.specs.Pool.{cell_of}
use Rattle.tables.specs.Pools.{Pools}
use Rattle.tables.specs.Marks.{always, where_set}
use Rattle.tables.specs.declared.bounds.Bounds.{Bounds}
use Rattle.tables.specs.declared.lent.Sailing.{Sailing}
use Rattle.tables.specs.declared.lent.Updates.{Updates}
use Rattle.verdicts.proofs.Passed.{Clear, clear_drop, clear_part}
use Rattle.verdicts.proofs.Facts.{Between, moments, offsets, by_number, IdsHold, ids_hold}
use Rattle.update_rules.specs.Parts.{updates_causes, arrivals_causes, update_departures_causes, sailing_causes}

module _ (p : Pools) where
  module _ (b : Bounds) (u : Updates) (h : Clear p (updates_causes b u)) where
    at_updates : (k : ℕ) → Clear p (drop k (updates_causes b u))
    at_updates = clear_drop p (updates_causes b u) h

    pub update_stops : IdsHold p u.stop (where_set u.named) false u.sequence.n b.id
    update_stops = ids_hold p _ _ _ _ _ (clear_part p (updates_causes b u) h 0 4)

    pub updates_ascend : (i j : ℕ) → i < j → j < u.sequence.n → cell_of p.words u.sequence i < cell_of p.words u.sequence j
    updates_ascend = by_number p _ _ (at_updates 7).0

  module _ (u : Updates) (h : Clear p (arrivals_causes u)) where
    at_arrivals : (k : ℕ) → Clear p (drop k (arrivals_causes u))
    at_arrivals = clear_drop p (arrivals_causes u) h

    pub arrivals_between : Between p u.arrival (where_set u.arrives) u.sequence.n (pos 0) (pos 4102444799)
    arrivals_between = moments p _ _ _ (at_arrivals 0).0 (at_arrivals 4).0

  module _ (u : Updates) (h : Clear p (update_departures_causes u)) where
    at_update_departures : (k : ℕ) → Clear p (drop k (update_departures_causes u))
    at_update_departures = clear_drop p (update_departures_causes u) h

    pub update_departures_between : Between p u.departure (where_set u.departs) u.sequence.n (pos 0) (pos 4102444799)
    update_departures_between = moments p _ _ _ (at_update_departures 0).0 (at_update_departures 4).0

  module _ (b : Bounds) (s : Sailing) (h : Clear p (sailing_causes b s)) where
    at_sailing : (k : ℕ) → Clear p (drop k (sailing_causes b s))
    at_sailing = clear_drop p (sailing_causes b s) h

    pub sailing_feed : IdsHold p s.feed always false 1 b.id
    sailing_feed = ids_hold p _ _ _ _ _ (clear_part p (sailing_causes b s) h 0 4)

    pub sailing_key : IdsHold p s.key always false 1 b.id
    sailing_key = ids_hold p _ _ _ _ _ (clear_part p (sailing_causes b s) h 4 4)

    pub sailing_route : IdsHold p s.route (where_set s.routed) false 1 b.id
    sailing_route = ids_hold p _ _ _ _ _ (clear_part p (sailing_causes b s) h 8 4)

    pub now_between : Between p s.now always 1 (pos 0) (pos 4102444799)
    now_between = moments p _ _ _ (at_sailing 14).0 (at_sailing 16).0

    pub offset_between : Between p s.offset always 1 (negsuc 50399) (pos 50400)
    offset_between = offsets p _ always _ (at_sailing 15).0 (at_sailing 17).0
