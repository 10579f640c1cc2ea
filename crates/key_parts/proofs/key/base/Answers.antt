use borrow.Author.Rules.{rules}
use mathlib.Core.Path.{◌∙◌, sym}
use Rattle.text_runs.proofs.last_of.Reads as last-of-reads
use Rattle.parts.proofs.first.Reads as first_reads
use Rattle.key_parts.proofs.key.base.Goals as goal

pub returns-in-Some : goal.returns-in-Some
returns-in-Some c = rw (c.first.ensures, sym c.last_of.ensures ∙ c.in-Some.is)

pub returns-in-None : goal.returns-in-None
returns-in-None c = rw (sym c.last_of.ensures ∙ c.in-None.is)
