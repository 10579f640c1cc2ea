use Rattle.verdicts.specs.Refuse.{least_of}
use Rattle.schedule_rules.proofs.rules.placing.Goals as goal

pub returns : goal.returns
unfolding least_of
returns c = cc
