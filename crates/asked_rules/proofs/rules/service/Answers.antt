use borrow.Author.Rules.{rules}
use Rattle.verdicts.specs.Refuse.{least_of}
use Rattle.asked_rules.proofs.rules.service.Goals as goal

pub returns : goal.returns
unfolding least_of
returns c = rw (c.test-2.ensures, c.test.ensures, c.test_all_ids-2.ensures, c.test_all_ids.ensures)
