-- The metres along its line that a trip's distances stand for. Definitions only.
use Rattle.unit_scales.specs.declared.metres.Affine.{Affine}
use Rattle.std.specs.Prelude.{ℕ, cond, List, Float, Option, Some, None}
use Rattle.ids.specs.First.{first, last}
use Rattle.ids.specs.Pool.{cell_of}
use Rattle.lengths.specs.Line.{line_of}
use Rattle.lengths.specs.declared.line.Point.{Point}
use Rattle.trip_rows.specs.Rows.{real_of, stop_point}
use Rattle.calibration.specs.Affine.{shape_dist_affine}
use Rattle.calibration.specs.declared.affine.Sample.{Sample}
use Rattle.courses.specs.Course.{is_flagged, row_after, shape_part}
use Rattle.sample_rows.specs.Samples.{sample_from}
use Rattle.courses.specs.declared.course.Course.{Course}

-- the sample that row k is
unfoldable pub sample_at : List ℕ → List Float → List Float → Course → ℕ → Sample
sample_at words reals dists c k = record { at = stop_point reals c.stops (cell_of words c.times.stop k); dist = real_of dists c.times.dist k }

-- the line of a shape
abbrev pub shape_line : List ℕ → List Float → Course → ℕ → List Point
shape_line words reals c shape = line_of (shape_part words reals c.shapes c.points.lat shape) (shape_part words reals c.shapes c.points.lon shape)

-- from two rows, if both are found, along the line of a shape
abbrev pub rows_affine : List ℕ → List Float → List Float → Course → ℕ → Option ℕ → Option ℕ → Option Affine
rows_affine words reals dists c shape None j = None
rows_affine words reals dists c shape (Some i) None = None
rows_affine words reals dists c shape (Some i) (Some j) = shape_dist_affine (shape_line words reals c shape) (sample_at words reals dists c i) (sample_at words reals dists c j)

-- from the trip's first and last sample; none where it has no shape
unfoldable pub trip_affine : List ℕ → List ℕ → List Float → List Float → Course → ℕ → Option Affine
trip_affine bytes words reals dists c trip =
    let from = cell_of words c.trips.first trip in
    let n = cell_of words c.trips.count trip in
    let samples = sample_from bytes words c from in
    cond (is_flagged bytes c.trips.shaped trip)
    (rows_affine words reals dists c (cell_of words c.trips.shape trip) (row_after from (first samples n)) (row_after from (last samples n))) None
