use borrow.Author.Rules.{rules}
use Rattle.texts.proofs.trimmed_text.Reads as trimmed-text-reads
use Rattle.parts.proofs.first.Reads as first_reads
use Rattle.key_parts.proofs.key.without_locs.Goals as goal

pub returns : goal.returns
returns c = rw (c.first.ensures, c.trimmed_text.ensures)
