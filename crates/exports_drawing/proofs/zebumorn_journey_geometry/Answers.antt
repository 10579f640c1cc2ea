-- `exports_drawing::zebumorn_journey_geometry` meets its contract: the operation's answer, told.
use borrow.Author.Rules.{rules}
use mathlib.Core.Path.{ap, ◌∙◌}
use Rattle.refusals.specs.Answer.{number_of, value_or}
use Rattle.exports_drawing.proofs.zebumorn_journey_geometry.Goals as goal

pub returns-clause-value : goal.returns-clause-value
returns-clause-value c = c.told.ensures.value ∙ ap number_of c.journey_geometry-journey.ensures.result_value

pub returns-clause-points_after : goal.returns-clause-points_after
returns-clause-points_after c = c.told.ensures.out_after ∙ ap (value_or _) c.journey_geometry-journey.ensures.result_value
