-- What an estimate may take for granted of the trips that are found, their rows and lines, and the stops of calls, where nothing is refused. Assumes nothing.
use Rattle.std.specs.Prelude.{Some}
use Prim.Native.Nat.{ℕ, ◌+◌, ◌<◌, ◌≤◌}
use native.Mathlib.Omega.{arith}
use mathlib.Core.Path.{◌≡◌, refl}
use mathlib.Core.Bool.{Bool, true, false, not, cond}
use mathlib.Core.List.{List}
use lib.Dec.{eqb}
use lib.Ieee.{Float}
use lib.ListN.{drop, get_or, length, length-take}
use Rattle.ids.specs.Pool.{cell_of}
use Rattle.ids.specs.declared.pool.Span.{Span}
use Rattle.columns.specs.Rows.{bit_of}
use Rattle.tables.specs.Pools.{Pools}
use Rattle.tables.specs.Bounds.{chart_bounds}
use Rattle.verdicts.specs.Refuse.{refusal_of}
use Rattle.tables.specs.Marks.{always, where_set}
use Rattle.tables.specs.declared.lent.Tables.{Tables}
use Rattle.verdicts.proofs.Facts.{all_count, counted}
use Rattle.verdicts.proofs.Passed.{clear_drop}
use Rattle.trip_rules.specs.Parts.{trips_causes}
use Rattle.trip_rules.proofs.Parts.{trip_rows_within}
use Rattle.schedule_rules.specs.Parts.{calls_causes}
use Rattle.schedule_rules.proofs.Parts.{trip_shapes_below, call_stops_below, call_arrivals_below, call_departures_below}
use Rattle.shape_rules.specs.Parts.{shapes_causes}
use Rattle.shape_rules.proofs.Parts.{shape_points_below}
use Rattle.lookup_rules.specs.Parts.{lines_causes}
use Rattle.lookup_rules.proofs.Parts.{line_trips_below}
use Rattle.checks.specs.Operations.{estimate_causes}
use Rattle.checks.proofs.Operations.{Estimate, estimate_holds}
use Rattle.lengths.proofs.Rows.{vertex_count}
use Rattle.trip_rows.specs.Rows.{shape_span, trip_span, shape_column, trip_line}
use Rattle.trip_ids.specs.Trips.{trip_of}
use Rattle.stop_rows.specs.Rows.{is_positioned}
use Rattle.lent_plans.specs.Plans.{plan_of}
use Rattle.timetable.specs.Timetable.{named_of}
use Rattle.timetable.proofs.Holds.{flag_counts}
use Rattle.match_facts.proofs.Matched.{id_holds, match_holds}
use Rattle.calls.specs.Calls.{reported_of, call_stops}
use Rattle.calls.proofs.Calls.{call_holds}
use Rattle.sailings.specs.Sailing.{trip_from, sailing_trip}
use Rattle.estimate_facts.proofs.Columns.{cell_below, range_within, record_below}

-- the points of one column of a line are no more than its span says
pub column_few : (reals : List Float) (column points : Span) → length (shape_column reals column points) ≤ points.n
unfolding shape_column
column_few reals column points = simp length-take (omega arith)

module _ (p : Pools) (t : Tables) (e : refusal_of p (estimate_causes chart_bounds t) ≡ 0) where
  held : Estimate p chart_bounds t
  held = estimate_holds p chart_bounds t e

  -- a trip of the tables
  abbrev pub IsTrip : ℕ → Type 0
  IsTrip k = k < t.trips.first.n

  -- each row of the trip ids names one, and so does each line
  id_trip : (k : ℕ) → k < t.tripkeys.id.starts.n → IsTrip (cell_of p.words t.tripkeys.row k)
  id_trip = record_below p chart_bounds t.tripkeys 65535 t.trips.first.n held.lookup.trip_ids

  line_trip : (k : ℕ) → k < t.lines.trip.n → IsTrip (cell_of p.words t.lines.trip k)
  line_trip k l =
      let h = held.lookup.lines in
      cell_below p always (counted p (drop 4 (lines_causes chart_bounds t.lines t.trips.first.n)) (clear_drop p (lines_causes chart_bounds t.lines t.trips.first.n) h 4)).0
      (line_trips_below p chart_bounds t.lines t.trips.first.n h) k l (all_count p always refl k)

  -- so the trip that the sailing stands for is one, and the trip whose id is a key
  pub sailing_trip_is : (k : ℕ) → sailing_trip p.bytes p.words p.times t ≡ Some k → IsTrip k
  unfolding sailing_trip trip_from
  sailing_trip_is k f = match_holds p.bytes p.words IsTrip (named_of t) (plan_of t) id_trip line_trip _ _ _ _ _ k f

  pub key_trip_is : (key : List ℕ) (k : ℕ) → trip_of p.bytes p.words t.tripkeys key ≡ Some k → IsTrip k
  key_trip_is key k f = id_holds p.bytes p.words IsTrip t.tripkeys id_trip key k f

  -- its rows are rows of the stop times, of which there are no more than a million
  pub trip_rows : (k : ℕ) → IsTrip k → cell_of p.words t.trips.first k + cell_of p.words t.trips.count k ≤ t.times.stop.n
  trip_rows k l =
      let h = held.geometry.trips in
      let c = counted p (trips_causes chart_bounds t.trips t.times.stop.n) h in
      range_within p c.0 c.1.0 (trip_rows_within p chart_bounds t.trips t.times.stop.n h) k l

  pub rows_few : t.times.stop.n ≤ 1000000
  rows_few = (counted p (drop 6 (calls_causes chart_bounds t.times)) (clear_drop p (calls_causes chart_bounds t.times) held.geometry.calls 6)).0

  -- the schedule seconds of a row are below a week's
  pub arrivals_below : (k : ℕ) → k < t.times.stop.n → cell_of p.words t.times.arrival k < 604800
  arrivals_below k l =
      let c = counted p (calls_causes chart_bounds t.times) held.geometry.calls in
      cell_below p always c.1.1.0 (call_arrivals_below p chart_bounds t.times held.geometry.calls held.call_times) k l (all_count p always refl k)

  pub departures_below : (k : ℕ) → k < t.times.stop.n → cell_of p.words t.times.departure k < 604800
  departures_below k l =
      let c = counted p (calls_causes chart_bounds t.times) held.geometry.calls in
      cell_below p always c.1.1.1.0 (call_departures_below p chart_bounds t.times held.geometry.calls held.call_times) k l (all_count p always refl k)

  -- a shape has no more than 8192 points
  shape_few : (k : ℕ) → k < t.shapes.first.n → (shape_span p.words t.shapes k).n ≤ 8192
  unfolding shape_span
  shape_few k l =
      let h = held.geometry.shapes in
      let b = cell_below p always (counted p (drop 5 (shapes_causes chart_bounds t.shapes t.points.lat.n)) (clear_drop p (shapes_causes chart_bounds t.shapes t.points.lat.n) h 5)).0
      (shape_points_below p chart_bounds t.shapes t.points.lat.n h) k l (all_count p always refl k) in
      omega arith

  -- and so the line of a trip
  pub span_few : (k : ℕ) → IsTrip k → (trip_span p.bytes p.words t.trips t.shapes k).n ≤ 8192
  unfolding trip_span
  span_few k l = go (eqb (bit_of p.bytes t.trips.shaped k) 0) refl where
    shape : not (eqb (bit_of p.bytes t.trips.shaped k) 0) ≡ true → cell_of p.words t.trips.shape k < t.shapes.first.n
    shape s =
        let g = held.geometry in
        let c = counted p (trips_causes chart_bounds t.trips t.times.stop.n) g.trips in
        cell_below p (where_set t.trips.shaped) c.1.1.0 (trip_shapes_below p chart_bounds t.trips t.times t.times.stop.n t.shapes.first.n t.stops.lat.n g.trips g.calls g.placing) k l (flag_counts p c.1.1.1.0 k l s)

    go : (s : Bool) → eqb (bit_of p.bytes t.trips.shaped k) 0 ≡ s →
        (cond s (record { at = 0; n = 0 }) (shape_span p.words t.shapes (cell_of p.words t.trips.shape k))).n ≤ 8192
    go true s = omega arith
    go false s = shape_few (cell_of p.words t.trips.shape k) (shape (rw s refl))

  pub line_few : (k : ℕ) → IsTrip k → length (trip_line p.bytes p.words p.reals t.trips t.shapes t.points k) ≤ 8192
  unfolding trip_line
  line_few k l =
      let s = trip_span p.bytes p.words t.trips t.shapes k in
      let c = vertex_count (shape_column p.reals t.points.lat s) (shape_column p.reals t.points.lon s) in
      omega (arith, c, column_few p.reals t.points.lat s, span_few k l)

  -- the stop of a row is one of the stops
  pub row_stop_below : (k : ℕ) → k < t.times.stop.n → cell_of p.words t.times.stop k < t.stops.lat.n
  row_stop_below k l =
      let g = held.geometry in
      let c = counted p (calls_causes chart_bounds t.times) g.calls in
      cell_below p always c.0 (call_stops_below p chart_bounds t.trips t.times t.times.stop.n t.shapes.first.n t.stops.lat.n g.trips g.calls g.placing) k l (all_count p always refl k)

  -- and so is the stop of a call, and it has a position
  pub call_stop_is : (i : ℕ) → i < length (call_stops p.bytes p.words (reported_of t)) →
      (is_positioned p.bytes t.stops (get_or (call_stops p.bytes p.words (reported_of t)) i 0) ≡ true) × (get_or (call_stops p.bytes p.words (reported_of t)) i 0 < t.stops.lat.n)
  call_stop_is =
      call_holds p.bytes p.words (reported_of t) (λ (s : ℕ). s < t.stops.lat.n) (record_below p chart_bounds t.stopkeys 65535 t.stops.lat.n held.stop_ids)
      (λ j k l m. row_stop_below _ (omega (arith, trip_rows (cell_of p.words t.tripkeys.row j) (id_trip j l))))
