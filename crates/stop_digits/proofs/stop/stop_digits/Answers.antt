use borrow.Author.Rules.{rules}
use mathlib.Core.Path.{◌∙◌}
use Rattle.stop_digits.specs.Stops.{stop_digits_of}
use Rattle.parts.proofs.Either.{or_empty, or_some}
use Rattle.stop_digits.proofs.stop.stop_digits.Goals as goal

pub returns-then-marked-eq0 : goal.returns-then-marked-eq0
unfolding stop_digits_of
returns-then-marked-eq0 c = rw (← c.marked_digits-marked.ensures) (c.digits_last.ensures ∙ or_empty c.marked_digits-marked.result.now _ c.if-marked-eq0.true)

pub returns : goal.returns
unfolding stop_digits_of
returns c = rw (← c.marked_digits-marked.ensures) (or_some c.marked_digits-marked.result.now _ c.if-marked-eq0.false)
