-- `exports_timetable::trips::zebumorn_service_runs` meets its contract: the service's answer, told.
use mathlib.Core.Path.{ap, ◌∙◌}
use Rattle.refusals.specs.Answer.{number_of}
use Rattle.refusal_numbers.specs.Told.{runs_or}
use Rattle.exports_timetable.proofs.trips.zebumorn_service_runs.Goals as goal

pub returns : goal.returns
returns c = record { value = c.told_running.ensures.0 ∙ ap number_of c.service_runs.ensures; out_after = c.told_running.ensures.1 ∙ ap (runs_or _) c.service_runs.ensures }
