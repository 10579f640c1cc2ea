-- The projection of a trip as an operation: the first refusal that applies, or how many rows are written; and the output.
use Rattle.std.specs.Prelude.{ℕ, List, length}
use Rattle.ids.specs.Pool.{id_of}
use Rattle.refusals.specs.Answer.{Answer}
use Rattle.answers.specs.Answers.{unless_refused, or_short, unless_kept}
use Rattle.tables.specs.Pools.{Pools}
use Rattle.tables.specs.Bounds.{chart_bounds}
use Rattle.verdicts.specs.Refuse.{refusal_of}
use Rattle.tables.specs.declared.lent.LegAsked.{LegAsked}
use Rattle.tables.specs.declared.lent.Tables.{Tables}
use Rattle.geometry_checks.specs.Operations.{leg_causes}
use Rattle.trip_ids.specs.Trips.{trip_of}
use Rattle.trip_vertices.specs.Written.{found_vertices}

-- the vertices of the trip asked of
unfoldable pub asked_vertices : Pools → Tables → LegAsked → List ℕ
asked_vertices p t l =
    found_vertices p.bytes p.words p.reals t (trip_of p.bytes p.words t.tripkeys (id_of p.bytes p.words l.trip 0))

-- the first refusal that applies, or 0; last 9, for an output of fewer rows
unfoldable pub project_refusal : Pools → Tables → LegAsked → List ℕ → ℕ
project_refusal p t l out = or_short (refusal_of p (leg_causes chart_bounds t l)) (length (asked_vertices p t l)) (length out)

-- how many rows are written
unfoldable pub projected_of : Pools → Tables → LegAsked → List ℕ → Answer ℕ
projected_of p t l out = unless_refused (project_refusal p t l out) (length (asked_vertices p t l))

-- the output afterwards
unfoldable pub output_of : Pools → Tables → LegAsked → List ℕ → List ℕ
output_of p t l out = unless_kept (project_refusal p t l out) (asked_vertices p t l) out
