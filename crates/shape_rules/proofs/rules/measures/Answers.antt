use borrow.Author.Rules.{rules}
use Rattle.verdicts.specs.Refuse.{least_of}
use Rattle.shape_rules.proofs.rules.measures.Goals as goal

pub returns : goal.returns
unfolding least_of
returns c = rw (c.test-4.ensures, c.test-3.ensures, c.test-2.ensures, c.test.ensures)
