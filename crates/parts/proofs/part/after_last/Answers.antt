use borrow.Author.Rules.{rules}
use mathlib.Core.Path.{◌∙◌, sym}
use Rattle.text_runs.proofs.last_of.Reads as last-of-reads
use Rattle.parts.proofs.part.from.Reads as from-reads
use Rattle.parts.proofs.part.after_last.Goals as goal

pub returns-in-Some : goal.returns-in-Some
returns-in-Some c = rw (c.from-in-Some.ensures, c.from.ensures, sym c.last_of.ensures ∙ c.in-Some.is)

pub returns-in-None : goal.returns-in-None
returns-in-None c = rw (sym c.last_of.ensures ∙ c.in-None.is)
