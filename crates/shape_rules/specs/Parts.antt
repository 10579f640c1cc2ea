-- The causes of shapes, points and measures: a refusal's number, and the fault that it is given for. A table has as many rows as the column that `n` is taken of.
use Rattle.std.specs.Prelude.{ℕ, ◌+◌, false, List, [], ◌∷◌, ◌++◌}
use Rattle.ids.specs.declared.pool.Span.{Span}
use Rattle.column_order.specs.declared.order.Key.TheVariants.{Id}
use Rattle.verdicts.specs.Refuse.{Cause, cause, id_causes}
use Rattle.tables.specs.Marks.{always}
use Rattle.tables.specs.declared.bounds.Bounds.{Bounds}
use Rattle.tables.specs.declared.mark.Pool.TheVariants.{Words, Reals, Dists}
use Rattle.faults.specs.declared.fault.Test.TheVariants.{Column, Over, Reaches, OffGlobe, Unsorted, EndsPast, NotFinite, NotANumber}
use Rattle.tables.specs.declared.lent.Points.{Points}
use Rattle.tables.specs.declared.lent.Shapes.{Shapes}

-- the shapes, and their points among so many
abbrev pub shapes_causes : Bounds → Shapes → ℕ → List Cause
shapes_causes b s points =
    id_causes s.id always false s.first.n b.id
    ++ (cause 1 (Column Words s.first s.first.n)
    ∷ cause 1 (Column Words s.count s.first.n)
    ∷ cause 2 (Over s.first.n b.others)
    ∷ cause 2 (Reaches s.count always (b.points + 1))
    ∷ cause 4 (Unsorted (Id s.id) s.first.n)
    ∷ cause 5 (EndsPast s.first s.count points) ∷ [])

-- the points of all shapes
abbrev pub points_causes : Points → List Cause
points_causes p =
    cause 1 (Column Reals p.lat p.lat.n)
    ∷ cause 1 (Column Reals p.lon p.lat.n)
    ∷ cause 3 (OffGlobe p.lat p.lon always) ∷ []

-- the same of no more points than so many
abbrev pub points_within_causes : Points → ℕ → List Cause
points_within_causes p most = cause 2 (Over p.lat.n most) ∷ points_causes p

-- one line
abbrev pub line_causes : Bounds → Points → List Cause
line_causes b p = points_within_causes p b.points

-- n distances, and numbers for calibration
abbrev pub measures_causes : Span → Span → ℕ → List Cause
measures_causes dists numbers n =
    cause 1 (Column Dists dists n)
    ∷ cause 1 (Column Reals numbers numbers.n)
    ∷ cause 8 (NotFinite dists always)
    ∷ cause 8 (NotANumber numbers) ∷ []
