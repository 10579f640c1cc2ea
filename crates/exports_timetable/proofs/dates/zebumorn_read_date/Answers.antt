-- `exports_timetable::dates::zebumorn_read_date` meets its contract: the number of what is read.
use mathlib.Core.Path.{ap, ◌∙◌}
use Rattle.days.specs.Read.{refusal_of}
use Rattle.exports_timetable.proofs.dates.zebumorn_read_date.Goals as goal

pub returns : goal.returns
returns c = c.told_date.ensures ∙ ap refusal_of c.read_date.ensures
