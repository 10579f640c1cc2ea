use borrow.Author.Tests.{le-ltb, lt-ltb}
use Rattle.line_fits.proofs.line.kept.Goals as goal

pub returns-then-away-best : goal.returns-then-away-best
returns-then-away-best c = rw (lt-ltb _ _ c.if-away-best.true)

pub returns : goal.returns
returns c = rw (le-ltb _ _ c.if-away-best.false)
