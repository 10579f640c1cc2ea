-- The cursor's step as an operation: the first refusal that applies, or the next cursor and the vertex.
use Rattle.std.specs.Prelude.{ℕ, cond, List, eqb, ltb, Float, length}
use Rattle.column_floats.specs.Real.{off_globe_at}
use Rattle.columns.specs.Rows.{some}
use Rattle.refusals.specs.Answer.{Answer}
use Rattle.globe.specs.Globe.{on_globe}
use Rattle.answers.specs.Answers.{unless_refused}
use Rattle.lengths.specs.Line.{line_of}
use Rattle.lengths.specs.declared.line.Point.{Point}
use Rattle.projection.specs.Projection.{step_of}
use Rattle.projection.specs.declared.cursor.Cursor.{Cursor}
use Rattle.projection.specs.declared.cursor.Step.{Step}

-- 1 for columns of unequal length, 2 for over 8,192 points, 3 for a point or a stop off the globe; else 0
unfoldable pub step_refusal : List Float → List Float → Point → ℕ
step_refusal lat lon stop =
    cond (eqb (length lat) (length lon))
    (cond (ltb 8192 (length lat)) 2 (cond (some (off_globe_at lat lon) (length lat)) 3 (cond (on_globe stop.lat stop.lon) 0 3)))
    1

unfoldable pub stepped_of : List Float → List Float → Cursor → Point → Answer Step
stepped_of lat lon c stop = unless_refused (step_refusal lat lon stop) (step_of (line_of lat lon) c stop)
