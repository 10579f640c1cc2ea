-- Whether the service of a row runs on its date, and what is answered of it in document 01's terms: the first refusal that applies, its number alone, or the value.
use Rattle.std.specs.Prelude.{ℕ, Bool, List}
use Rattle.ids.specs.Pool.{cell_of, id_of}
use Rattle.days.specs.Days.{ordinal}
use Rattle.refusals.specs.Answer.{Answer}
use Rattle.answers.specs.Answers.{unless_refused}
use Rattle.tables.specs.Pools.{Pools}
use Rattle.tables.specs.Bounds.{chart_bounds}
use Rattle.verdicts.specs.Refuse.{refusal_of}
use Rattle.tables.specs.declared.lent.Service.{Service}
use Rattle.tables.specs.declared.lent.Tables.{Tables}
use Rattle.checks.specs.Operations.{service_day_causes}
use Rattle.services.specs.Runs.{runs_of}

-- the service of the row runs on its date
unfoldable pub service_runs : List ℕ → List ℕ → Tables → Service → Bool
service_runs bytes words t s =
    runs_of bytes words t.calendars t.ranges t.exceptions (id_of bytes words s.feed 0) (id_of bytes words s.service 0) (ordinal (cell_of words s.date 0))

-- whether a service runs on a date
unfoldable pub running_of : Pools → Tables → Service → Answer Bool
running_of p t s = unless_refused (refusal_of p (service_day_causes chart_bounds t s)) (service_runs p.bytes p.words t s)
