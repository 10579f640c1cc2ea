-- The tables that a trip is found in by its line and its time. Definitions only.
use Rattle.tables.specs.declared.lent.Tables.{Tables}
use Rattle.trip_fits.specs.declared.fit.Plan.{Plan}

abbrev pub plan_of : Tables → Plan
plan_of t = record { trips = t.trips; departures = t.times.departure; lines = t.lines; calendars = t.calendars; ranges = t.ranges; exceptions = t.exceptions }
