-- The points of the trip found: from stop to stop, or along its shape. Assumes nothing.
use Rattle.std.specs.Prelude.{Option, Some}
use Prim.Native.Nat.{ℕ}
use mathlib.Core.Path.{◌≡◌}
use mathlib.Core.List.{List}
use borrow.Author.Tests.{eq-eqb, ne_eqb}
use lib.Ieee.{Float}
use lib.ListN.{length}
use Rattle.ids.specs.Pool.{cell_of, id_of}
use Rattle.ids.specs.declared.pool.Span.{Span}
use Rattle.lengths.specs.Line.{line_of}
use Rattle.refusals.specs.Answer.{Answer}
use Rattle.tables.specs.Pools.{Pools}
use Rattle.tables.specs.Bounds.{chart_bounds}
use Rattle.verdicts.specs.Refuse.{refusal_of}
use Rattle.tables.specs.declared.lent.LegAsked.{LegAsked}
use Rattle.tables.specs.declared.lent.Tables.{Tables}
use Rattle.geometry_checks.specs.Operations.{leg_causes}
use Rattle.trip_ids.specs.Trips.{trip_of}
use Rattle.trip_rows.specs.Rows.{row_position, shape_column, trip_span, trip_line}
use Rattle.trip_vertices.specs.Vertices.{positions_from}
use Rattle.leg_parts.specs.Parts.{ends_of}
use Rattle.leg_points.specs.Leg.{part_drawn, stops_drawn, leg_points}
use Rattle.leg_drawing.specs.Trip.{trip_points, found_points, asked_points}
use Rattle.point_columns.proofs.Rooms.{Right}

module _ (bytes words : List ℕ) (reals : List Float) (t : Tables) (from to : ℕ) {found : Option ℕ} (trip : ℕ) (f : found ≡ Some trip)
    {first count : ℕ} (a : first ≡ cell_of words t.trips.first trip) (n : count ≡ cell_of words t.trips.count trip)
    {points : Span} (s : points ≡ trip_span bytes words t.trips t.shapes trip)
    {lats lons : List Float} (y : lats ≡ shape_column reals t.points.lat points) (x : lons ≡ shape_column reals t.points.lon points) where
  pub no_shape : length (line_of lats lons) ≡ 0 →
      found_points bytes words reals t from to found ≡ stops_drawn (positions_from (row_position bytes words reals t.stops t.times) first count) (ends_of count from to)
  unfolding trip_points leg_points trip_line
  no_shape z = rw (f, ← a, ← n, ← s, ← y, ← x, eq-eqb _ _ z)

  pub with_shape : (length (line_of lats lons) ≡ 0 → ⊥) →
      found_points bytes words reals t from to found ≡ part_drawn (line_of lats lons) (positions_from (row_position bytes words reals t.stops t.times) first count) (ends_of count from to)
  unfolding trip_points leg_points trip_line
  with_shape z = rw (f, ← a, ← n, ← s, ← y, ← x, ne_eqb _ _ z)

-- the operation, where nothing is refused
module _ (p : Pools) (t : Tables) (l : LegAsked) (from to : ℕ) (lat lon : List Float) where
  pub asked : refusal_of p (leg_causes chart_bounds t l) ≡ 0 → {found : Option ℕ} → found ≡ trip_of p.bytes p.words t.tripkeys (id_of p.bytes p.words l.trip 0) →
      {r : Answer ℕ} {lat' lon' : List Float} → Right 0 (found_points p.bytes p.words p.reals t from to found) lat lon r lat' lon' →
      Right (refusal_of p (leg_causes chart_bounds t l)) (asked_points p t l from to) lat lon r lat' lon'
  unfolding asked_points
  asked e f h = rw (e, ← f) h
