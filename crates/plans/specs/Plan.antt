-- The voyage that the lent tables come to, without the clock: its calls, its legs, and where she is pinned without a call. Definitions only.
use Rattle.std.specs.Prelude.{ℕ, ◌+◌, List, Float, get_or, Option, Some, None}
use Rattle.ids.specs.Pool.{cell_of}
use Rattle.tables.specs.Pools.{Pools}
use Rattle.tables.specs.declared.lent.Tables.{Tables}
use Rattle.trip_rows.specs.Rows.{stop_point}
use Rattle.courses.specs.declared.course.Course.{Course}
use Rattle.calls.specs.Calls.{reported_of, update_stop, call_rows, call_stops, call_arrivals, call_departures}
use Rattle.best_rows.specs.Serving.{best_row}
use Rattle.sailing_rows.specs.Rows.{is_cancelled}
use Rattle.sailings.specs.Sailing.{sailing_trip}
use Rattle.previous.specs.Before.{prev_row}
use Rattle.scheduled_runs.specs.Run.{run_of}
use Rattle.paths.specs.declared.path.End.{End}
use Rattle.call_places.specs.Places.{stop_of_call, sequence_of_call, point_of_call, call_end}
use Rattle.leg_paths.specs.Leg.{leg_shape, leg_stops, leg_path}
use Rattle.voyages.specs.Voyage.{Leg, Approach, none, over, Pin, unplaced, pinned, Voyage}

-- the tables that a trip's course is read from
abbrev pub course_of : Tables → Course
course_of t = record { trips = t.trips; times = t.times; stops = t.stops; shapes = t.shapes; points = t.points }

-- a row of the stop times as an end of a leg
abbrev pub row_end : List ℕ → List Float → Tables → ℕ → End
row_end words reals t row = record { sequence = cell_of words t.times.sequence row; at = stop_point reals t.stops (cell_of words t.times.stop row) }

-- ---- the legs
module _ (bytes words : List ℕ) (reals dists : List Float) (t : Tables) (trip : Option ℕ) where
  -- the leg between two ends, along the path of the trip
  unfoldable pub leg_between : End → End → Leg
  leg_between from to =
      record {
        from = from.at;
        to = to.at;
        shape = leg_shape bytes words reals (course_of t) trip;
        chain = leg_stops bytes words reals (course_of t) trip from to;
        path = leg_path bytes words reals dists (course_of t) trip from to;
      }

  -- the leg from a row to an end, if there is one, in the seconds that the schedule has for it
  abbrev pub approach_from : Option ℕ → End → Approach
  approach_from (Some row) to =
      over (leg_between (row_end words reals t row) to) (run_of words t.trips t.times trip (cell_of words t.times.sequence row) to.sequence)
  approach_from None to = none

  -- from the static stop before a call
  unfoldable pub approach_to : End → ℕ → Approach
  approach_to to stop = approach_from (prev_row bytes words t.trips t.times t.stops trip to.sequence stop) to

-- ---- without a call
-- the stop of an update, if it is found, as a pin
abbrev pub pin_of : List ℕ → List Float → Tables → ℕ → Option ℕ → Pin
pin_of words reals t row (Some stop) = pinned stop (cell_of words t.updates.sequence row) (stop_point reals t.stops stop)
pin_of words reals t row None = unplaced

-- that of the row that serves best
abbrev pub pin_at : List ℕ → List ℕ → List Float → Tables → Option ℕ → Pin
pin_at bytes words reals t (Some row) = pin_of words reals t row (update_stop bytes words (reported_of t) row)
pin_at bytes words reals t None = unplaced

-- ---- the voyage
-- of calls with these rows, stops and moments, and of this static trip
unfoldable pub voyage_from : Pools → Tables → Option ℕ → List ℕ → List ℕ → List ℕ → List ℕ → Voyage
voyage_from p t trip rows stops arrs deps =
    let end = call_end p.words p.reals t rows stops in
    record {
      cancelled = is_cancelled p.bytes t.sailing;
      arrs = arrs;
      deps = deps;
      stop = stop_of_call p.words p.reals t rows stops;
      sequence = sequence_of_call p.words p.reals t rows stops;
      position = point_of_call p.words p.reals t rows stops;
      leg = λ k. leg_between p.bytes p.words p.reals p.dists t trip (end k) (end (k + 1));
      approach = approach_to p.bytes p.words p.reals p.dists t trip (end 0) (get_or stops 0 0);
      pin = pin_at p.bytes p.words p.reals t (best_row p.bytes t.updates p.words);
    }

-- Of the tables: the calls are the updates that have a time and whose stop is found; the static trip is matched once.
unfoldable pub voyage_of : Pools → Tables → Voyage
voyage_of p t =
    let reported = reported_of t in
    voyage_from p t (sailing_trip p.bytes p.words p.times t) (call_rows p.bytes p.words reported) (call_stops p.bytes p.words reported)
    (call_arrivals p.bytes p.words reported p.times) (call_departures p.bytes p.words reported p.times)
