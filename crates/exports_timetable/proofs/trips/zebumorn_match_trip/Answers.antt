-- `exports_timetable::trips::zebumorn_match_trip` meets its contract: matching's answer, told.
use mathlib.Core.Path.{ap, ◌∙◌}
use Rattle.refusals.specs.Answer.{number_of}
use Rattle.refusal_numbers.specs.Told.{row_or}
use Rattle.exports_timetable.proofs.trips.zebumorn_match_trip.Goals as goal

pub returns : goal.returns
returns c = record { value = c.told_trip.ensures.0 ∙ ap number_of c.match_trip.ensures; out_after = c.told_trip.ensures.1 ∙ ap (row_or _) c.match_trip.ensures }
