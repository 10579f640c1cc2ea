use borrow.Author.Rules.{rules}
use Rattle.refs.specs.Refs.{after_colons}
use Rattle.texts.proofs.first_place.Reads as first-place-reads
use Rattle.key_parts.proofs.without_colons.Reads as without-colons-reads
use Rattle.key_parts.proofs.without_locs.Reads as without-locs-reads
use Rattle.parts.proofs.past_place.Reads as past-place-reads
use Rattle.refs.proofs.journey.after_colons.Goals as goal

pub returns : goal.returns
unfolding after_colons
returns c = rw (c.without_locs.ensures, c.without_colons.ensures, c.past_place.ensures, c.first_place.ensures)
