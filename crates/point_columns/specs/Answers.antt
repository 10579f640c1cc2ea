-- What an operation that draws points answers, and its two columns afterwards. Definitions only.
use Rattle.std.specs.Prelude.{ℕ, cond, List, eqb, Float, length}
use Rattle.lengths.specs.declared.line.Point.{Point}
use Rattle.refusals.specs.Answer.{Answer}
use Rattle.answers.specs.Answers.{unless_refused, or_short, unless_kept}
use Rattle.point_columns.specs.Drawn.{lats_of, lons_of}

-- the first refusal that applies, or 0, where n is the first of those of the tables: 1 for columns of unequal length, and last 9, for columns of fewer rows than points
unfoldable pub drawing_refusal : ℕ → List Point → List Float → List Float → ℕ
drawing_refusal n points lat lon = cond (eqb (length lat) (length lon)) (or_short n (length points) (length lat)) 1

-- how many points are written
unfoldable pub drawn_answer : ℕ → List Point → List Float → List Float → Answer ℕ
drawn_answer n points lat lon = unless_refused (drawing_refusal n points lat lon) (length points)

-- the columns afterwards
unfoldable pub lat_after : ℕ → List Point → List Float → List Float → List Float
lat_after n points lat lon = unless_kept (drawing_refusal n points lat lon) (lats_of points) lat

unfoldable pub lon_after : ℕ → List Point → List Float → List Float → List Float
lon_after n points lat lon = unless_kept (drawing_refusal n points lat lon) (lons_of points) lon
