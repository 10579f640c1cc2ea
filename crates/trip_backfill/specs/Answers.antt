-- Backfill as an operation: the first refusal that applies, or how many rows are written; and the outputs.
use Rattle.std.specs.Prelude.{ℕ, min, List, Float, length}
use Rattle.refusals.specs.Answer.{Answer}
use Rattle.answers.specs.Answers.{unless_refused, or_short, unless_kept}
use Rattle.tables.specs.Pools.{Pools, part_of}
use Rattle.tables.specs.Bounds.{chart_bounds}
use Rattle.verdicts.specs.Refuse.{refusal_of}
use Rattle.tables.specs.declared.lent.Tables.{Tables}
use Rattle.geometry_checks.specs.Operations.{geometry_causes}
use Rattle.row_distances.specs.Rows.{rows_of, dists_in, marks_in}
use Rattle.filled_trips.specs.Tables.{after_trips}
use Rattle.row_distances.specs.declared.row.Distance.{Distance}

-- the distances of all stop times, as they are lent
unfoldable pub lent_rows : Pools → Tables → List Distance
lent_rows p t = rows_of (part_of p.dists t.times.dist) (part_of p.bytes t.times.measured)

-- the refusal n, or else 9 where one of the two outputs has fewer rows than are to be written
unfoldable pub short_of : ℕ → List Distance → List Float → List ℕ → ℕ
short_of n rows dist measured = or_short n (length rows) (min (length dist) (length measured))

-- how many rows are written, and the outputs afterwards, where only room is wanting
unfoldable pub room_answer : List Distance → List Float → List ℕ → Answer ℕ
room_answer rows dist measured = unless_refused (short_of 0 rows dist measured) (length rows)

unfoldable pub room_dists : List Distance → List Float → List ℕ → List Float
room_dists rows dist measured = unless_kept (short_of 0 rows dist measured) (dists_in rows) dist

unfoldable pub room_marks : List Distance → List Float → List ℕ → List ℕ
room_marks rows dist measured = unless_kept (short_of 0 rows dist measured) (marks_in rows) measured

-- the first refusal that applies, or 0; last 9, for an output of fewer rows
unfoldable pub fill_refusal : Pools → Tables → List Float → List ℕ → ℕ
fill_refusal p t dist measured = short_of (refusal_of p (geometry_causes chart_bounds t)) (lent_rows p t) dist measured

-- how many rows are written
unfoldable pub filled_of : Pools → Tables → List Float → List ℕ → Answer ℕ
filled_of p t dist measured = unless_refused (fill_refusal p t dist measured) (length (lent_rows p t))

-- the outputs afterwards: the rows after backfill of n trips from one on
unfoldable pub filled_dists : Pools → Tables → ℕ → ℕ → List Float → List ℕ → List Float
filled_dists p t trip n dist measured =
    unless_kept (fill_refusal p t dist measured) (dists_in (after_trips p.bytes p.words p.reals t trip n (lent_rows p t))) dist

unfoldable pub filled_marks : Pools → Tables → ℕ → ℕ → List Float → List ℕ → List ℕ
filled_marks p t trip n dist measured =
    unless_kept (fill_refusal p t dist measured) (marks_in (after_trips p.bytes p.words p.reals t trip n (lent_rows p t))) measured
