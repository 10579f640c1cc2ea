-- The shape and the chain of a leg of a trip, and the path that it is drawn along. Definitions only.
use Rattle.std.specs.Prelude.{ℕ, false, List, Float, Option, Some, None}
use Rattle.ids.specs.Pool.{cell_of}
use Rattle.ids.specs.declared.pool.Span.{Span}
use Rattle.spans.specs.declared.span.Span.{Span as Distances}
use Rattle.lengths.specs.Line.{line_of}
use Rattle.lengths.specs.declared.line.Point.{Point}
use Rattle.trip_rows.specs.Rows.{trip_span, shape_column}
use Rattle.trip_samples.specs.Trip.{trip_affine}
use Rattle.courses.specs.declared.course.Course.{Course}
use Rattle.chain_rows.specs.Rows.{leg_chain}
use Rattle.chain_lines.specs.Chain.{chain_line}
use Rattle.chain_rows.specs.declared.chain.Chain.{Chain}
use Rattle.paths.specs.Path.{feed_span, path_of}
use Rattle.paths.specs.declared.path.End.{End}
use Rattle.paths.specs.declared.path.Path.{Path}
use Rattle.paths.specs.declared.path.Path.TheVariants.{Straight}
use Rattle.seq_distances.specs.Dist.{seq_dist}

-- how many rows a leg's trip has
abbrev pub leg_count : List ℕ → Course → Option ℕ → ℕ
leg_count words c (Some trip) = cell_of words c.trips.count trip
leg_count words c None = 0

-- the points of its shape; a leg of no trip has none
abbrev pub leg_span : List ℕ → List ℕ → Course → Option ℕ → Span
leg_span bytes words c (Some trip) = trip_span bytes words c.trips c.shapes trip
leg_span bytes words c None = record { at = 0; n = 0 }

-- the line of its shape
unfoldable pub leg_shape : List ℕ → List ℕ → List Float → Course → Option ℕ → List Point
leg_shape bytes words reals c trip =
    let points = leg_span bytes words c trip in line_of (shape_column reals c.points.lat points) (shape_column reals c.points.lon points)

-- the rows and ends of its chain; a leg of no trip has no row
abbrev pub leg_rows : List ℕ → Course → Option ℕ → End → End → Chain
leg_rows words c (Some trip) from to = leg_chain words c.trips trip from.sequence from.at to.sequence to.at
leg_rows words c None from to = record { first = 0; count = 0; lo = 0; hi = 0; reversed = false; from = from.at; to = to.at }

-- its chain: the stops between, from end to end
abbrev pub leg_stops : List ℕ → List ℕ → List Float → Course → Option ℕ → End → End → List Point
leg_stops bytes words reals c trip from to = chain_line bytes words reals c.stops c.times (leg_rows words c trip from to)

-- the span between the distances that the timetable has for the ends
unfoldable pub trip_spanned : List ℕ → List ℕ → List Float → List Float → Course → ℕ → End → End → Option Distances
trip_spanned bytes words reals dists c trip from to =
    feed_span (trip_affine bytes words reals dists c trip) (seq_dist bytes words dists c trip from.sequence) (seq_dist bytes words dists c trip to.sequence)

-- the path of a leg of a trip
unfoldable pub trip_path : List ℕ → List ℕ → List Float → List Float → Course → ℕ → End → End → Path
trip_path bytes words reals dists c trip from to =
    path_of (leg_shape bytes words reals c (Some trip)) (trip_affine bytes words reals dists c trip) (seq_dist bytes words dists c trip from.sequence)
    (seq_dist bytes words dists c trip to.sequence) (leg_stops bytes words reals c (Some trip) from to) from.at to.at

-- a leg of no trip is straight
abbrev pub leg_path : List ℕ → List ℕ → List Float → List Float → Course → Option ℕ → End → End → Path
leg_path bytes words reals dists c (Some trip) from to = trip_path bytes words reals dists c trip from to
leg_path bytes words reals dists c None from to = Straight
