use Rattle.verdicts.specs.Refuse.{least_of}
use Rattle.lookup_rules.proofs.rules.id_rows.Goals as goal

pub returns : goal.returns
unfolding least_of
returns c = cc
