use borrow.Author.Rules.{rules}
use Rattle.parts.proofs.part.first.Reads as first_reads
use Rattle.parts.proofs.part.before.Goals as goal

pub returns-in-Some : goal.returns-in-Some
returns-in-Some c = rw (c.first.ensures, c.in-Some.is)
