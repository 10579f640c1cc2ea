use borrow.Author.Rules.{rules}
use Rattle.verdicts.specs.Refuse.{least_of}
use Rattle.update_rules.proofs.rules.update_departures.Goals as goal

pub returns : goal.returns
unfolding least_of
returns c = rw (c.test-5.ensures, c.where_set.ensures, c.test-4.ensures, c.test-3.ensures, c.test-2.ensures, c.test.ensures)
