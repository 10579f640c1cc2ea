-- Matching never reads the clock: the sailing, whose row has it, may be any other. Assumes nothing.
use mathlib.Core.Path.{◌≡◌, refl}
use Rattle.tables.specs.Pools.{Pools}
use Rattle.tables.specs.declared.lent.Journey.{Journey}
use Rattle.tables.specs.declared.lent.Sailing.{Sailing}
use Rattle.tables.specs.declared.lent.Tables.{Tables}
use Rattle.checks.specs.Operations.{matching_causes, trip_lookup_causes, calendar_tables_causes}
use Rattle.timetable.specs.Timetable.{journey_trip}
use Rattle.timetable.specs.Answers.{matched_of}

-- the same tables with another sailing
abbrev pub sailing_is : Tables → Sailing → Tables
sailing_is t s = record {
  stops = t.stops;
  stopkeys = t.stopkeys;
  trips = t.trips;
  tripkeys = t.tripkeys;
  times = t.times;
  shapes = t.shapes;
  points = t.points;
  aliases = t.aliases;
  lines = t.lines;
  calendars = t.calendars;
  ranges = t.ranges;
  exceptions = t.exceptions;
  updates = t.updates;
  sailing = s;
}

pub never_reads_clock : (p : Pools) (t : Tables) (j : Journey) (s : Sailing) → matched_of p (sailing_is t s) j ≡ matched_of p t j
unfolding matched_of journey_trip matching_causes trip_lookup_causes calendar_tables_causes
never_reads_clock p t j s = refl
