use borrow.Author.Rules.{rules}
use Rattle.key_parts.specs.Keys.{tail_of}
use Rattle.key_parts.proofs.key.without_colons.Reads as without-colons-reads
use Rattle.key_parts.proofs.key.without_loc.Reads as without-loc-reads
use Rattle.parts.proofs.after_last.Reads as after-last-reads
use Rattle.parts.proofs.if_long.Reads as if-long-reads
use Rattle.key_parts.proofs.key.tail.Goals as goal

pub returns : goal.returns
unfolding tail_of
returns c = rw (c.if_long.ensures, c.after_last.ensures, c.without_loc.ensures, c.without_colons.ensures)
