use borrow.Author.Rules.{rules}
use mathlib.Core.Path.{◌∙◌}
use Rattle.verdicts.proofs.Folds.{over, then}
use Rattle.geometry_checks.specs.Operations.{interpolation_causes}
use Rattle.geometry_checks.proofs.check.check_interpolation.Goals as goal

pub returns : goal.returns
unfolding interpolation_causes
returns c =
    c.finish.ensures ∙ (then _ _ _ _ _ _ (rw c.new.ensures at c.points_within-line.ensures)
    (then _ _ _ _ _ _ c.points-ends.ensures
    (then _ _ _ _ _ _ c.measures.ensures
    (over _ _))))
