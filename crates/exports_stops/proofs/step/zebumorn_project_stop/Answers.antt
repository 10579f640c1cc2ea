-- `exports_stops::step::zebumorn_project_stop` meets its contract.
use borrow.Author.Rules.{rules}
use Rattle.exports_stops.proofs.step.zebumorn_project_stop.Goals as goal

pub returns : goal.returns
returns c = rw (← c.project_stop.ensures) c.tell_step.ensures
