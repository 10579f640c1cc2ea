-- What is lent with two clocks, and what demand 3 grants of it. Definitions only.
use Rattle.std.specs.Prelude.{ℕ, ◌+◌, ◌<◌, ◌≡◌, [], length}
use Rattle.ids.specs.declared.pool.Span.{Span}
use Rattle.tables.specs.Pools.{Pools, part_of}
use Rattle.tables.specs.declared.lent.Sailing.{Sailing}
use Rattle.tables.specs.declared.lent.Tables.{Tables}
use Rattle.leg_order.specs.Granted.{Granted}
use Rattle.timeline_order.specs.Order.{Timely}
use Rattle.calls.specs.Calls.{reported_of, call_rows}
use Rattle.best_rows.specs.Serving.{best_row}
use Rattle.sailings.specs.Sailing.{sailing_trip}
use Rattle.voyages.specs.Voyage.{Leg, Approach, none, over, Voyage}
use Rattle.plans.specs.Plan.{voyage_of}

-- ---- all but the clock

-- a sailing, and tables, whose clock stands in another column
abbrev pub sailing_with : Sailing → Span → Sailing
sailing_with s now = record { feed = s.feed; key = s.key; route = s.route; routed = s.routed; cancelled = s.cancelled; now = now; offset = s.offset }

abbrev pub with_now : Tables → Span → Tables
with_now t now =
    record {
      stops = t.stops;
      stopkeys = t.stopkeys;
      trips = t.trips;
      tripkeys = t.tripkeys;
      times = t.times;
      shapes = t.shapes;
      points = t.points;
      aliases = t.aliases;
      lines = t.lines;
      calendars = t.calendars;
      ranges = t.ranges;
      exceptions = t.exceptions;
      updates = t.updates;
      sailing = sailing_with t.sailing now;
    }

-- Lent the same in all but the clock, which may stand in another column. Of the other moments it is enough that the arrivals, the departures and the offset are the same.
pub record SameButClock (p p' : Pools) (t t' : Tables) : Type 0 where
  pub now : Span
  pub tables : t' ≡ with_now t now
  pub bytes : p'.bytes ≡ p.bytes
  pub words : p'.words ≡ p.words
  pub reals : p'.reals ≡ p.reals
  pub dists : p'.dists ≡ p.dists
  pub arrivals : part_of p'.times t.updates.arrival ≡ part_of p.times t.updates.arrival
  pub departures : part_of p'.times t.updates.departure ≡ part_of p.times t.updates.departure
  pub offset : part_of p'.times t.sailing.offset ≡ part_of p.times t.sailing.offset

-- ---- what is granted

-- along a leg each length is a number of zero or more, and the distances read along a shape are finite as f32 and not below zero
abbrev pub GrantedLeg : Leg → Type 0
GrantedLeg leg = Granted leg.shape leg.chain leg.path

abbrev pub GrantedApproach : Approach → Type 0
GrantedApproach none = Unit {0}
GrantedApproach (over leg run) = GrantedLeg leg

-- Of the voyage: no arrival follows its departure, nor a departure the next arrival; along each leg what is said above.
pub record GrantedVoyage (v : Voyage) : Type 0 where
  pub times : Timely v.arrs v.deps
  pub legs : (k : ℕ) → k + 1 < length v.arrs → GrantedLeg (v.leg k)
  pub approach : GrantedApproach v.approach

-- Of two clocks: both match the same static trip, or both none; where there is no call, both have one best stop.
pub record SameMatch (p p' : Pools) (t t' : Tables) : Type 0 where
  pub trip : sailing_trip p'.bytes p'.words p'.times t' ≡ sailing_trip p.bytes p.words p.times t
  pub best : call_rows p.bytes p.words (reported_of t) ≡ [] → best_row p'.bytes t'.updates p'.words ≡ best_row p.bytes t.updates p.words

-- Demand 3's hypotheses.
pub record Hypotheses (p p' : Pools) (t t' : Tables) : Type 0 where
  pub lent : SameButClock p p' t t'
  pub match : SameMatch p p' t t'
  pub voyage : GrantedVoyage (voyage_of p t)
