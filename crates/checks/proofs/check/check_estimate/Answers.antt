use mathlib.Core.Path.{◌∙◌}
use Rattle.verdicts.proofs.Folds.{over, then}
use Rattle.checks.specs.Operations.{estimate_causes}
use Rattle.checks.proofs.check.check_estimate.Goals as goal

pub returns : goal.returns
unfolding estimate_causes
returns c =
    c.finish.ensures ∙ (then _ _ _ _ _ _ c.geometry-geometry.ensures
    (then _ _ _ _ _ _ c.call_times-times.ensures
    (then _ _ _ _ _ _ c.id_rows-stopkeys.ensures
    (then _ _ _ _ _ _ c.trip_lookup-lookup.ensures
    (then _ _ _ _ _ _ c.calendar_tables-calendars.ensures
    (then _ _ _ _ _ _ c.updates-updates.ensures
    (then _ _ _ _ _ _ c.arrivals-arrivals.ensures
    (then _ _ _ _ _ _ c.update_departures-departures.ensures
    (then _ _ _ _ _ _ c.sailing.ensures
    (over _ _))))))))))
