use borrow.Author.Rules.{rules}
use Rattle.text_runs.proofs.trimmed.Reads as trimmed-reads
use Rattle.parts.proofs.first.Reads as first_reads
use Rattle.key_parts.proofs.key.without_colons.Goals as goal

pub returns : goal.returns
returns c = rw (c.first.ensures, c.trimmed.ensures)
