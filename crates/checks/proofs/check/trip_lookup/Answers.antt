use Rattle.verdicts.proofs.Folds.{over, then}
use Rattle.checks.specs.Operations.{trip_lookup_causes}
use Rattle.checks.proofs.check.trip_lookup.Goals as goal

pub returns : goal.returns
unfolding trip_lookup_causes
returns c =
    then _ _ _ _ _ _ c.id_rows-tripkeys.ensures
    (then _ _ _ _ _ _ c.aliases-aliases.ensures
    (then _ _ _ _ _ _ c.lines.ensures
    (over _ _)))
