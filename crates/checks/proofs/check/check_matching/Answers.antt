use borrow.Author.Rules.{rules}
use mathlib.Core.Path.{◌∙◌}
use Rattle.verdicts.proofs.Folds.{over, then}
use Rattle.checks.specs.Operations.{matching_causes}
use Rattle.checks.proofs.check.check_matching.Goals as goal

pub returns : goal.returns
unfolding matching_causes
returns c =
    c.finish.ensures ∙ (then _ _ _ _ _ _ (rw c.new.ensures at c.trips-trips.ensures)
    (then _ _ _ _ _ _ c.calls-calls.ensures
    (then _ _ _ _ _ _ c.call_times-times.ensures
    (then _ _ _ _ _ _ c.trip_lookup-lookup.ensures
    (then _ _ _ _ _ _ c.calendar_tables-calendars.ensures
    (then _ _ _ _ _ _ c.journey.ensures
    (over _ _)))))))
