use borrow.Author.Rules.{rules}
use Rattle.verdicts.specs.Refuse.{least_of}
use Rattle.asked_rules.proofs.rules.leg_asked.Goals as goal

pub returns : goal.returns
unfolding least_of
returns c = rw (c.test_ids.ensures)
