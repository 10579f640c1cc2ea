use Rattle.verdicts.specs.Refuse.{least_of}
use Rattle.verdicts.proofs.verdict.Verdict.test_ids.Goals as goal

pub returns : goal.returns
unfolding least_of
returns c = cc
