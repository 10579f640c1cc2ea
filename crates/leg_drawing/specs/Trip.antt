-- The points of a leg of a trip of the lent tables.
use Rattle.std.specs.Prelude.{ℕ, List, [], Float, Option, Some, None}
use Rattle.ids.specs.Pool.{cell_of, id_of}
use Rattle.lengths.specs.declared.line.Point.{Point}
use Rattle.tables.specs.Pools.{Pools}
use Rattle.tables.specs.declared.lent.LegAsked.{LegAsked}
use Rattle.tables.specs.declared.lent.Tables.{Tables}
use Rattle.trip_ids.specs.Trips.{trip_of}
use Rattle.trip_rows.specs.Rows.{row_position, trip_line}
use Rattle.trip_vertices.specs.Vertices.{positions_from}
use Rattle.leg_parts.specs.Parts.{ends_of}
use Rattle.leg_points.specs.Leg.{leg_points}

-- of a trip, from one offset of its stop times to another
unfoldable pub trip_points : List ℕ → List ℕ → List Float → Tables → ℕ → ℕ → ℕ → List Point
trip_points bytes words reals t from to trip =
    let count = cell_of words t.trips.count trip in
    leg_points (trip_line bytes words reals t.trips t.shapes t.points trip)
    (positions_from (row_position bytes words reals t.stops t.times) (cell_of words t.trips.first trip) count) (ends_of count from to)

-- of the trip found; none where there is none
abbrev pub found_points : List ℕ → List ℕ → List Float → Tables → ℕ → ℕ → Option ℕ → List Point
found_points bytes words reals t from to (Some trip) = trip_points bytes words reals t from to trip
found_points bytes words reals t from to None = []

-- of the trip asked of
unfoldable pub asked_points : Pools → Tables → LegAsked → ℕ → ℕ → List Point
asked_points p t l from to =
    found_points p.bytes p.words p.reals t from to (trip_of p.bytes p.words t.tripkeys (id_of p.bytes p.words l.trip 0))
