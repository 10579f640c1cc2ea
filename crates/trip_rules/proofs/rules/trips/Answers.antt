use borrow.Author.Rules.{rules}
use Rattle.verdicts.specs.Refuse.{least_of}
use Rattle.trip_rules.proofs.rules.trips.Goals as goal

pub returns : goal.returns
unfolding least_of
returns c = rw (c.test_all_ids-2.ensures, c.test_all_ids.ensures, c.test-7.ensures, c.test-6.ensures, c.test-5.ensures, c.test-4.ensures, c.test-3.ensures, c.test-2.ensures, c.test.ensures)
