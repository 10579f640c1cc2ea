use borrow.Author.Rules.{rules}
use borrow.Author.Tests.{le-leb, lt-leb}
use Rattle.parts.proofs.part.if_long.Goals as goal

pub returns-then-n-s : goal.returns-then-n-s
returns-then-n-s c = simp (le-leb _ _ c.if-n-s.true)

pub returns : goal.returns
returns c = simp (lt-leb _ _ c.if-n-s.false)
