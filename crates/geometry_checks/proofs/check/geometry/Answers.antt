use borrow.Author.Rules.{rules}
use Rattle.verdicts.proofs.Folds.{over, then}
use Rattle.geometry_checks.specs.Operations.{geometry_causes}
use Rattle.geometry_checks.proofs.check.geometry.Goals as goal

pub returns : goal.returns
unfolding geometry_causes
returns c =
    then _ _ _ _ _ _ (rw c.new.ensures at c.stops-stops.ensures)
    (then _ _ _ _ _ _ c.trips-trips.ensures
    (then _ _ _ _ _ _ c.calls-calls.ensures
    (then _ _ _ _ _ _ c.placing-placing.ensures
    (then _ _ _ _ _ _ c.shapes-shapes.ensures
    (then _ _ _ _ _ _ c.points.ensures
    (over _ _))))))
