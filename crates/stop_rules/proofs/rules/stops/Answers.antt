use borrow.Author.Rules.{rules}
use Rattle.verdicts.specs.Refuse.{least_of}
use Rattle.stop_rules.proofs.rules.stops.Goals as goal

pub returns : goal.returns
unfolding least_of
returns c = rw (c.test_ids.ensures, c.test_all_ids.ensures, c.test-5.ensures, c.where_set.ensures, c.test-4.ensures, c.test-3.ensures, c.test-2.ensures, c.test.ensures)
