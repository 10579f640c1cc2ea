use mathlib.Core.Path.{◌∙◌}
use Rattle.verdicts.proofs.Folds.{over, then}
use Rattle.geometry_checks.specs.Operations.{leg_causes}
use Rattle.geometry_checks.proofs.check.check_leg.Goals as goal

pub returns : goal.returns
unfolding leg_causes
returns c =
    c.finish.ensures ∙ (then _ _ _ _ _ _ c.geometry-geometry.ensures
    (then _ _ _ _ _ _ c.id_rows-tripkeys.ensures
    (then _ _ _ _ _ _ c.leg_asked.ensures
    (over _ _))))
