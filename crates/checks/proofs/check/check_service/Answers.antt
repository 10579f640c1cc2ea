use borrow.Author.Rules.{rules}
use mathlib.Core.Path.{◌∙◌}
use Rattle.verdicts.proofs.Folds.{over, then}
use Rattle.checks.specs.Operations.{service_day_causes}
use Rattle.checks.proofs.check.check_service.Goals as goal

pub returns : goal.returns
unfolding service_day_causes
returns c =
    c.finish.ensures ∙ (then _ _ _ _ _ _ (rw c.new.ensures at c.calendar_tables-calendars.ensures)
    (then _ _ _ _ _ _ c.service.ensures
    (over _ _)))
