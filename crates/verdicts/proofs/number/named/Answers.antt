use Rattle.verdicts.specs.Refuse.{least_of}
use Rattle.verdicts.proofs.number.named.Goals as goal

pub returns : goal.returns
unfolding least_of
returns c = cc
