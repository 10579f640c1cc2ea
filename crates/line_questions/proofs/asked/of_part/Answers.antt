use borrow.Author.Rules.{rules}
use borrow.Author.Tests.{le-ltb, lt-ltb}
use Rattle.line_questions.specs.Asked.{polyline_lent}
use Rattle.line_questions.proofs.asked.of_part.Goals as goal

pub returns-then-vertices-lt2 : goal.returns-then-vertices-lt2
unfolding polyline_lent
returns-then-vertices-lt2 c = rw (← c.vertices.ensures, lt-ltb _ _ c.if-vertices-lt2.true)

pub returns-then-x-lt1 : goal.returns-then-x-lt1
unfolding polyline_lent
returns-then-x-lt1 c = rw (← c.vertices.ensures, le-ltb _ _ c.if-vertices-lt2.false, lt-ltb _ _ c.if-x-lt1.true)

pub returns : goal.returns
unfolding polyline_lent
returns c = rw (← c.vertices.ensures, le-ltb _ _ c.if-vertices-lt2.false, le-ltb _ _ c.if-x-lt1.false, ← c.vertex.ensures, ← c.vertex-2.ensures) c.interpolate_polyline.ensures
