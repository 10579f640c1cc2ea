use borrow.Author.Rules.{rules}
use Rattle.refs.specs.Refs.{after_parts}
use Rattle.text_runs.proofs.first_of.Reads as first-of-reads
use Rattle.refs.proofs.journey.after_kind.Reads as after-kind-reads
use Rattle.parts.proofs.past_place.Reads as past-place-reads
use Rattle.refs.proofs.journey.after_parts.Goals as goal

pub returns : goal.returns
unfolding after_parts
returns c = rw (c.after_kind.ensures, c.past_place.ensures, c.first_of.ensures)
