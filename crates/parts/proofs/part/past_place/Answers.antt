use borrow.Author.Rules.{rules}
use Rattle.parts.proofs.part.from.Reads as from-reads
use Rattle.parts.proofs.part.past_place.Goals as goal

pub returns-in-Some : goal.returns-in-Some
returns-in-Some c = rw (c.from-in-Some.ensures, c.from.ensures, c.in-Some.is)
