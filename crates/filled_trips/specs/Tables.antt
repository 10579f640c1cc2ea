-- Backfill of the trips of the tables, one after the other. Definitions only.
use Rattle.std.specs.Prelude.{ℕ, zero, suc, ◌+◌, cond, List, ◌++◌, ltb, Float, length, take, drop}
use Rattle.ids.specs.Pool.{cell_of}
use Rattle.tables.specs.declared.lent.Tables.{Tables}
use Rattle.trip_rows.specs.Rows.{row_position, trip_line}
use Rattle.trip_vertices.specs.Vertices.{positions_from}
use Rattle.backfill.specs.Trip.{backfill_of}
use Rattle.row_distances.specs.declared.row.Distance.{Distance}

-- the rows of all stop times after backfill of one trip: its own, n from `first` on, and the others as they were. A trip whose rows are not all there changes none
unfoldable pub after_trip : List ℕ → List ℕ → List Float → Tables → ℕ → List Distance → List Distance
after_trip bytes words reals t trip rows =
    let first = cell_of words t.trips.first trip in
    let n = cell_of words t.trips.count trip in
    let line = trip_line bytes words reals t.trips t.shapes t.points trip in
    let stops = positions_from (row_position bytes words reals t.stops t.times) first n in
    cond (ltb (length rows) (first + n)) rows (take first rows ++ (backfill_of line stops (take n (drop first rows)) ++ drop (first + n) rows))

-- after backfill of n trips, from one on, in table order
unfoldable pub after_trips : List ℕ → List ℕ → List Float → Tables → ℕ → ℕ → List Distance → List Distance
after_trips bytes words reals t trip zero rows = rows
after_trips bytes words reals t trip (suc n) rows = after_trips bytes words reals t (suc trip) n (after_trip bytes words reals t trip rows)
