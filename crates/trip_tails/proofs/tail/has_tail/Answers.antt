use borrow.Author.Tests.{le-leb, lt-leb}
use mathlib.Core.Path.{◌∙◌, sym}
use Rattle.trip_tails.specs.Tails.{has_tail}
use Rattle.trip_tails.proofs.tail.has_tail.Goals as goal

pub returns-then-ends_with : goal.returns-then-ends_with
unfolding has_tail
returns-then-ends_with c = simp (sym c.ends_with.ensures ∙ c.if-ends_with.true)

pub returns-then-tail-lt8 : goal.returns-then-tail-lt8
unfolding has_tail
returns-then-tail-lt8 c = simp (sym c.ends_with.ensures ∙ c.if-ends_with.false, lt-leb _ _ c.if-tail-lt8.true)

pub returns : goal.returns
unfolding has_tail
returns c = c.contains.ensures ∙ simp (sym c.ends_with.ensures ∙ c.if-ends_with.false, le-leb _ _ c.if-tail-lt8.false)
