-- What each operation may take for granted where nothing is refused: no cause of any table is there. `Parts` of each crate of rules says what that gives.
use mathlib.Core.Path.{◌≡◌}
use lib.Dec.{T}
use Rattle.tables.specs.Pools.{Pools}
use Rattle.verdicts.specs.Refuse.{joined, refusal_of}
use Rattle.tables.specs.declared.bounds.Bounds.{Bounds}
use Rattle.tables.specs.declared.lent.Journey.{Journey}
use Rattle.tables.specs.declared.lent.Service.{Service}
use Rattle.tables.specs.declared.lent.Tables.{Tables}
use Rattle.verdicts.proofs.Passed.{numbered, Clear, clear_at, not_refused}
use Rattle.trip_rules.specs.Parts.{trips_causes}
use Rattle.schedule_rules.specs.Parts.{call_times_causes, calls_causes}
use Rattle.calendar_rules.specs.Parts.{calendars_causes, exceptions_causes, ranges_causes}
use Rattle.lookup_rules.specs.Parts.{aliases_causes, id_rows_causes, lines_causes}
use Rattle.update_rules.specs.Parts.{arrivals_causes, sailing_causes, update_departures_causes, updates_causes}
use Rattle.asked_rules.specs.Parts.{journey_causes, service_causes}
use Rattle.geometry_checks.specs.Operations.{geometry_causes}
use Rattle.geometry_checks.proofs.Operations.{Geometry, geometry_parts}
use Rattle.checks.specs.Operations.{calendar_tables_causes, trip_lookup_causes, service_day_causes, matching_causes, estimate_causes}

module _ (p : Pools) where
  -- the calendar tables
  pub record Calendar (b : Bounds) (t : Tables) : Type 0 where
    pub calendars : Clear p (calendars_causes b t.calendars)
    pub ranges : Clear p (ranges_causes b t.ranges)
    pub exceptions : Clear p (exceptions_causes b t.exceptions)

  calendar_parts : (b : Bounds) (t : Tables) → Clear p (calendar_tables_causes b t) → Calendar b t
  unfolding calendar_tables_causes
  calendar_parts b t h = let at = clear_at p _ h in record { calendars = at 0; ranges = at 1; exceptions = at 2 }

  -- what a trip is looked up by
  pub record Lookup (b : Bounds) (t : Tables) : Type 0 where
    pub trip_ids : Clear p (id_rows_causes b t.tripkeys b.trips t.trips.first.n)
    pub aliases : Clear p (aliases_causes b t.aliases)
    pub lines : Clear p (lines_causes b t.lines t.trips.first.n)

  lookup_parts : (b : Bounds) (t : Tables) → Clear p (trip_lookup_causes b t) → Lookup b t
  unfolding trip_lookup_causes
  lookup_parts b t h = let at = clear_at p _ h in record { trip_ids = at 0; aliases = at 1; lines = at 2 }

  -- whether a service runs
  pub record ServiceDay (b : Bounds) (t : Tables) (s : Service) : Type 0 where
    pub calendar : Calendar b t
    pub asked : Clear p (service_causes b s)

  service_day_parts : (b : Bounds) (t : Tables) (s : Service) → Clear p (service_day_causes b t s) → ServiceDay b t s
  unfolding service_day_causes
  service_day_parts b t s h = let at = clear_at p _ h in record { calendar = calendar_parts b t (at 0); asked = at 1 }

  service_day_numbered : (b : Bounds) (t : Tables) (s : Service) → T (numbered (service_day_causes b t s))
  unfolding service_day_causes calendar_tables_causes joined
  service_day_numbered b t s = tt

  pub service_day_holds : (b : Bounds) (t : Tables) (s : Service) → refusal_of p (service_day_causes b t s) ≡ 0 → ServiceDay b t s
  service_day_holds b t s e = service_day_parts b t s (not_refused p _ (service_day_numbered b t s) e)

  -- trip matching
  pub record Matching (b : Bounds) (t : Tables) (j : Journey) : Type 0 where
    pub trips : Clear p (trips_causes b t.trips t.times.stop.n)
    pub calls : Clear p (calls_causes b t.times)
    pub call_times : Clear p (call_times_causes t.times)
    pub lookup : Lookup b t
    pub calendar : Calendar b t
    pub asked : Clear p (journey_causes b j)

  matching_parts : (b : Bounds) (t : Tables) (j : Journey) → Clear p (matching_causes b t j) → Matching b t j
  unfolding matching_causes
  matching_parts b t j h = let at = clear_at p _ h in record { trips = at 0; calls = at 1; call_times = at 2; lookup = lookup_parts b t (at 3); calendar = calendar_parts b t (at 4); asked = at 5 }

  matching_numbered : (b : Bounds) (t : Tables) (j : Journey) → T (numbered (matching_causes b t j))
  unfolding matching_causes calendar_tables_causes trip_lookup_causes joined
  matching_numbered b t j = tt

  pub matching_holds : (b : Bounds) (t : Tables) (j : Journey) → refusal_of p (matching_causes b t j) ≡ 0 → Matching b t j
  matching_holds b t j e = matching_parts b t j (not_refused p _ (matching_numbered b t j) e)

  -- the estimate
  pub record Estimate (b : Bounds) (t : Tables) : Type 0 where
    pub geometry : Geometry p b t
    pub call_times : Clear p (call_times_causes t.times)
    pub stop_ids : Clear p (id_rows_causes b t.stopkeys b.stops t.stops.lat.n)
    pub lookup : Lookup b t
    pub calendar : Calendar b t
    pub updates : Clear p (updates_causes b t.updates)
    pub arrivals : Clear p (arrivals_causes t.updates)
    pub departures : Clear p (update_departures_causes t.updates)
    pub sailing : Clear p (sailing_causes b t.sailing)

  estimate_parts : (b : Bounds) (t : Tables) → Clear p (estimate_causes b t) → Estimate b t
  unfolding estimate_causes
  estimate_parts b t h = let at = clear_at p _ h in record { geometry = geometry_parts p b t (at 0); call_times = at 1; stop_ids = at 2; lookup = lookup_parts b t (at 3); calendar = calendar_parts b t (at 4); updates = at 5; arrivals = at 6; departures = at 7; sailing = at 8 }

  estimate_numbered : (b : Bounds) (t : Tables) → T (numbered (estimate_causes b t))
  unfolding estimate_causes calendar_tables_causes geometry_causes trip_lookup_causes joined
  estimate_numbered b t = tt

  pub estimate_holds : (b : Bounds) (t : Tables) → refusal_of p (estimate_causes b t) ≡ 0 → Estimate b t
  estimate_holds b t e = estimate_parts b t (not_refused p _ (estimate_numbered b t) e)
