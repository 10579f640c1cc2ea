use borrow.Author.Rules.{rules}
use borrow.Author.Tests.{le-ltb, lt-ltb}
use Rattle.line_questions.specs.Asked.{vertices_lent}
use Rattle.line_questions.proofs.asked.of_line.Goals as goal

pub returns-then-x-lt1 : goal.returns-then-x-lt1
unfolding vertices_lent
returns-then-x-lt1 c = rw (lt-ltb _ _ c.if-x-lt1.true)

pub returns : goal.returns
unfolding vertices_lent
returns c = rw (le-ltb _ _ c.if-x-lt1.false) c.interpolate_along_vertices.ensures
