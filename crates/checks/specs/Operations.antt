-- The causes of each operation of the timetable, and of the estimate, of document 01, over all of each table that is lent to it. An index into a table that is not lent is not
-- tested, and a fault that the operation has no number for is none.
use Rattle.std.specs.Prelude.{List, [], ◌∷◌}
use Rattle.verdicts.specs.Refuse.{Cause, joined}
use Rattle.tables.specs.declared.bounds.Bounds.{Bounds}
use Rattle.tables.specs.declared.lent.Journey.{Journey}
use Rattle.tables.specs.declared.lent.Service.{Service}
use Rattle.tables.specs.declared.lent.Tables.{Tables}
use Rattle.trip_rules.specs.Parts.{trips_causes}
use Rattle.schedule_rules.specs.Parts.{call_times_causes, calls_causes}
use Rattle.calendar_rules.specs.Parts.{calendars_causes, exceptions_causes, ranges_causes}
use Rattle.lookup_rules.specs.Parts.{aliases_causes, id_rows_causes, lines_causes}
use Rattle.update_rules.specs.Parts.{arrivals_causes, sailing_causes, update_departures_causes, updates_causes}
use Rattle.asked_rules.specs.Parts.{journey_causes, service_causes}
use Rattle.geometry_checks.specs.Operations.{geometry_causes}

-- the calendars, ranges and exceptions
unfoldable pub calendar_tables_causes : Bounds → Tables → List Cause
calendar_tables_causes b t =
    joined
    (calendars_causes b t.calendars
    ∷ ranges_causes b t.ranges
    ∷ exceptions_causes b t.exceptions ∷ [])

-- what a trip is looked up by: trip ids, aliases, lines
unfoldable pub trip_lookup_causes : Bounds → Tables → List Cause
trip_lookup_causes b t =
    joined
    (id_rows_causes b t.tripkeys b.trips t.trips.first.n
    ∷ aliases_causes b t.aliases
    ∷ lines_causes b t.lines t.trips.first.n ∷ [])

-- whether a service runs: the calendar tables, and the service asked of
unfoldable pub service_day_causes : Bounds → Tables → Service → List Cause
service_day_causes b t s = joined (calendar_tables_causes b t ∷ service_causes b s ∷ [])

-- trip matching: trips, stop times, what a trip is looked up by, the calendar tables, and the journey asked of
unfoldable pub matching_causes : Bounds → Tables → Journey → List Cause
matching_causes b t j =
    joined
    (trips_causes b t.trips t.times.stop.n
    ∷ calls_causes b t.times
    ∷ call_times_causes t.times
    ∷ trip_lookup_causes b t
    ∷ calendar_tables_causes b t
    ∷ journey_causes b j ∷ [])

-- the estimate: every table
unfoldable pub estimate_causes : Bounds → Tables → List Cause
estimate_causes b t =
    joined
    (geometry_causes b t
    ∷ call_times_causes t.times
    ∷ id_rows_causes b t.stopkeys b.stops t.stops.lat.n
    ∷ trip_lookup_causes b t
    ∷ calendar_tables_causes b t
    ∷ updates_causes b t.updates
    ∷ arrivals_causes t.updates
    ∷ update_departures_causes t.updates
    ∷ sailing_causes b t.sailing ∷ [])
