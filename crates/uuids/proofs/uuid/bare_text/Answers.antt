use borrow.Author.Rules.{rules}
use Rattle.text_runs.proofs.run.Reads as run-reads
use Rattle.text_runs.proofs.trimmed.Reads as trimmed-reads
use Rattle.parts.proofs.first.Reads as first_reads
use Rattle.parts.proofs.from.Reads as from-reads
use Rattle.uuids.proofs.uuid.bare_text.Goals as goal

pub returns : goal.returns
returns c = rw (c.first.ensures, c.trimmed.ensures, c.from-t.ensures, c.run.ensures)
