use borrow.Author.Rules.{rules}
use mathlib.Core.Path.{◌∙◌}
use Rattle.verdicts.proofs.Folds.{over, then}
use Rattle.journey_rules.specs.Causes.{journey_causes}
use Rattle.journeys.proofs.check.check_journey.Goals as goal

pub returns : goal.returns
unfolding journey_causes
returns c =
    c.finish.ensures ∙ (then _ _ _ _ _ _ (rw c.new.ensures at c.legs-legs.ensures)
    (then _ _ _ _ _ _ c.ends-ends.ensures
    (then _ _ _ _ _ _ c.points.ensures
    (over _ _))))
