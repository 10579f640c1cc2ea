-- Backfill of records, and of the columns that they are laid out in. Definitions only.
use Rattle.std.specs.Prelude.{ℕ, List, ◌++◌, map, Float, length, take, drop, Option}
use Rattle.ids.specs.declared.pool.Span.{Span}
use Rattle.lengths.specs.Line.{line_of}
use Rattle.lengths.specs.declared.line.Point.{Point}
use Rattle.tables.specs.Pools.{part_of}
use Rattle.tables.specs.declared.lent.Stops.{Stops}
use Rattle.tables.specs.declared.lent.StopTimes.{StopTimes}
use Rattle.trip_rows.specs.Rows.{stop_position, row_position}
use Rattle.trip_vertices.specs.Vertices.{positions_from}
use Rattle.row_distances.specs.Rows.{rows_of, dists_in, marks_in}
use Rattle.backfill.specs.Trip.{backfill_of}
use Rattle.row_distances.specs.declared.row.Distance.{Distance}
use Rattle.records.specs.Rows.{each, map_to}
use Rattle.records.specs.Records.{fill_row, flag_of, stop_col, dist_col, known_col}
use Rattle.stop_record.specs.declared.StopTime.{StopTime}
use Rattle.record_refusals.specs.declared.LentRecords.{LentRecords}

-- the points of the trip's shape
unfoldable pub lent_line : List Float → LentRecords → List Point
lent_line reals l = line_of (part_of reals l.line.lat) (part_of reals l.line.lon)

-- where the stops of records are
unfoldable pub record_stops : List ℕ → List Float → Stops → List StopTime → List (Option Point)
record_stops bytes reals stops rs = map (λ (s : StopTime). stop_position bytes reals stops s.stop) rs

-- their distances
unfoldable pub record_rows : List StopTime → List Distance
record_rows rs = map (λ (s : StopTime). record { dist = s.dist; measured = flag_of s.measured }) rs

-- their distances after backfill
unfoldable pub record_filled : List ℕ → List Float → LentRecords → List StopTime → List Distance
record_filled bytes reals l rs = backfill_of (lent_line reals l) (record_stops bytes reals l.stops rs) (record_rows rs)

-- the columns whose first n rows are a trip's: its stops, distances and flags
abbrev unread : Span
unread = record { at = 0; n = 0 }

abbrev pub own_calls : StopTimes
own_calls = record { sequence = unread; stop = unread; arrival = unread; departure = unread; dist = unread; measured = unread }

unfoldable pub core_rows : List ℕ → List ℕ → List Float → LentRecords → ℕ → List Float → List ℕ → List Distance
core_rows bytes ats reals l n ds ks = backfill_of (lent_line reals l) (positions_from (row_position bytes ats reals l.stops own_calls) 0 n) (rows_of (take n ds) (take n ks))

unfoldable pub core_d : List ℕ → List ℕ → List Float → LentRecords → ℕ → List Float → List ℕ → List Float
core_d bytes ats reals l n ds ks = dists_in (core_rows bytes ats reals l n ds ks) ++ drop n ds

unfoldable pub core_k : List ℕ → List ℕ → List Float → LentRecords → ℕ → List Float → List ℕ → List ℕ
core_k bytes ats reals l n ds ks = marks_in (core_rows bytes ats reals l n ds ks) ++ drop n ks

-- records laid out in columns, and the columns and the records afterwards
module _ (rs : List StopTime) (bytes : List ℕ) (reals : List Float) (l : LentRecords) (ats : List ℕ) (ds : List Float) (ks : List ℕ) where
  abbrev pub laid_a : List ℕ
  laid_a = map_to (stop_col rs) (length rs) ats

  abbrev pub col_d : List Float
  col_d = map_to (dist_col rs) (length rs) ds

  abbrev pub col_k : List ℕ
  col_k = map_to (known_col rs) (length rs) ks

  abbrev pub laid_d : List Float
  laid_d = core_d bytes laid_a reals l (length rs) col_d col_k

  abbrev pub laid_k : List ℕ
  laid_k = core_k bytes laid_a reals l (length rs) col_d col_k

  abbrev pub laid_r : List StopTime
  laid_r = each (fill_row laid_d laid_k) rs
