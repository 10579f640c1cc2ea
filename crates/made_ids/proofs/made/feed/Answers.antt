use borrow.Author.Rules.{rules}
use mathlib.Core.Path.{◌∙◌, sym}
use Rattle.made_ids.specs.Made.{feed_of}
use Rattle.made_ids.proofs.made.feed.Goals as goal

pub returns-in-Some : goal.returns-in-Some
unfolding feed_of
returns-in-Some c = rw (c.part.ensures, sym c.first_of.ensures ∙ c.in-Some.is)

pub returns-in-None : goal.returns-in-None
unfolding feed_of
returns-in-None c = rw (sym c.first_of.ensures ∙ c.in-None.is)
