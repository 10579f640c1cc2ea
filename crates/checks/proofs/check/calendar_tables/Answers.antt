use Rattle.verdicts.proofs.Folds.{over, then}
use Rattle.checks.specs.Operations.{calendar_tables_causes}
use Rattle.checks.proofs.check.calendar_tables.Goals as goal

pub returns : goal.returns
unfolding calendar_tables_causes
returns c =
    then _ _ _ _ _ _ c.calendars-calendars.ensures
    (then _ _ _ _ _ _ c.ranges-ranges.ensures
    (then _ _ _ _ _ _ c.exceptions.ensures
    (over _ _)))
