use borrow.Author.Rules.{rules}
use Rattle.verdicts.specs.Refuse.{least_of}
use Rattle.schedule_rules.proofs.rules.call_times.Goals as goal

pub returns : goal.returns
unfolding least_of
returns c = rw (c.test-2.ensures, c.test.ensures)
