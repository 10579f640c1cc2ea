-- How well a trip's first departure fits the moment asked of.
use Rattle.std.specs.Prelude.{ℕ, Bool, ◌&&◌, cond, List, eqb, ltb, leb, Option, None}
use Rattle.ids.specs.Pool.{cell_of, id_of}
use Rattle.columns.specs.Rows.{bit_of}
use Rattle.services.specs.Runs.{runs_of}
use Rattle.departure_fits.specs.Departures.{nearer, if_runs}
use Rattle.departure_fits.specs.declared.departure.Count.{Count}
use Rattle.departure_fits.specs.declared.departure.Fit.{Fit}
use Rattle.trip_fits.specs.declared.fit.Plan.{Plan}

module _ (bytes words : List ℕ) (p : Plan) where
  -- the trip runs on the day
  unfoldable pub runs_on : ℕ → ℕ → Bool
  runs_on trip day =
      runs_of bytes words p.calendars p.ranges p.exceptions (id_of bytes words p.trips.feed trip) (id_of bytes words p.trips.service trip) day

  -- a departure at second s of the trip: of today's service day, or of yesterday's where it is from noon on
  unfoldable pub departing : Count → Count → ℕ → ℕ → Option Fit
  departing today yesterday trip s =
      nearer (if_runs (runs_on trip today.day) s today.second) (if_runs (leb 43200 s && runs_on trip yesterday.day) s yesterday.second)

  -- the row of its first stop time; trips that run by frequency, and rows past the stop times, have no departure
  unfoldable pub trip_fit : Count → Count → ℕ → Option Fit
  trip_fit today yesterday trip =
      cond (eqb (bit_of bytes p.trips.frequency trip) 0 && ltb (cell_of words p.trips.first trip) p.departures.n)
      (departing today yesterday trip (cell_of words p.departures (cell_of words p.trips.first trip)))
      None
