-- The causes of each operation of geometry of document 01, over all of each table that is lent to it. An index into a table that is not lent is not tested, and a fault that the
-- operation has no number for is none.
use Rattle.std.specs.Prelude.{List, [], ◌∷◌}
use Rattle.verdicts.specs.Refuse.{Cause, joined}
use Rattle.tables.specs.declared.bounds.Bounds.{Bounds}
use Rattle.tables.specs.declared.lent.Along.{Along}
use Rattle.tables.specs.declared.lent.LegAsked.{LegAsked}
use Rattle.tables.specs.declared.lent.Samples.{Samples}
use Rattle.tables.specs.declared.lent.Tables.{Tables}
use Rattle.stop_rules.specs.Parts.{stops_causes}
use Rattle.trip_rules.specs.Parts.{trips_causes}
use Rattle.schedule_rules.specs.Parts.{calls_causes, placing_causes}
use Rattle.shape_rules.specs.Parts.{line_causes, measures_causes, points_causes, points_within_causes, shapes_causes}
use Rattle.lookup_rules.specs.Parts.{id_rows_causes}
use Rattle.asked_rules.specs.Parts.{leg_asked_causes}

-- projection and backfill: stops, trips, stop times, shapes and points
unfoldable pub geometry_causes : Bounds → Tables → List Cause
geometry_causes b t =
    joined
    (stops_causes b t.stops
    ∷ trips_causes b t.trips t.times.stop.n
    ∷ calls_causes b t.times
    ∷ placing_causes t.trips t.times t.shapes.first.n t.stops.lat.n
    ∷ shapes_causes b t.shapes t.points.lat.n
    ∷ points_causes t.points ∷ [])

-- leg drawing: the same, the trip ids, and the trip asked of
unfoldable pub leg_causes : Bounds → Tables → LegAsked → List Cause
leg_causes b t l =
    joined
    (geometry_causes b t
    ∷ id_rows_causes b t.tripkeys b.trips t.trips.first.n
    ∷ leg_asked_causes b l ∷ [])

-- interpolation alone: the line, the ends of a leg, distances and numbers
unfoldable pub interpolation_causes : Bounds → Along → List Cause
interpolation_causes b a =
    joined
    (line_causes b a.line
    ∷ points_causes a.ends
    ∷ measures_causes a.dists a.numbers a.dists.n ∷ [])

-- calibration alone: the line, samples and numbers
unfoldable pub calibration_causes : Bounds → Samples → List Cause
calibration_causes b s =
    joined
    (line_causes b s.line
    ∷ points_within_causes s.at b.calls
    ∷ measures_causes s.dist s.numbers s.at.lat.n ∷ [])
