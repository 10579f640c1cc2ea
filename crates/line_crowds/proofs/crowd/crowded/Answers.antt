use borrow.Author.Tests.{le-ltb, lt-ltb}
use Rattle.line_crowds.specs.Crowds.{is_crowded}
use Rattle.line_crowds.proofs.crowd.crowded.Goals as goal

pub returns-then-away_of-le60 : goal.returns-then-away_of-le60
unfolding is_crowded
returns-then-away_of-le60 c = rw (← c.requires, le-ltb _ _ (rw c.away_of.ensures at c.if-away_of-le60.true))

pub returns : goal.returns
unfolding is_crowded
returns c = rw (← c.requires, lt-ltb _ _ (rw c.away_of.ensures at c.if-away_of-le60.false)) c.has_beside.ensures
