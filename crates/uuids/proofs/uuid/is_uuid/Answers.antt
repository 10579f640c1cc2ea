use borrow.Author.Rules.{rules}
use Rattle.uuids.specs.Uuids.{is_uuid}
use Rattle.uuids.proofs.uuid.bare_text.Reads as bare-text-reads
use Rattle.uuids.proofs.uuid.has_dashes.Reads as has-dashes-reads
use Rattle.uuids.proofs.uuid.is_uuid.Goals as goal

pub returns : goal.returns
unfolding is_uuid
returns c = rw (c.has_dashes.ensures, c.bare_text.ensures)
