use borrow.Author.Rules.{rules}
use mathlib.Core.Path.{◌∙◌, sym, ap}
use Rattle.refs.specs.Refs.{journey_id_of}
use Rattle.parts.proofs.Either.{or_empty, or_some}
use Rattle.refs.proofs.journey.after_colons.Reads as after-colons-reads
use Rattle.refs.proofs.journey.after_parts.Reads as after-parts-reads
use Rattle.refs.proofs.journey.journey_id.Goals as goal

pub returns-then-id-eq0 : goal.returns-then-id-eq0
unfolding journey_id_of
returns-then-id-eq0 c = rw (← c.after_colons-id.ensures) (c.after_parts.ensures ∙ or_empty c.after_colons-id.result.now _ c.if-id-eq0.true)

pub returns : goal.returns
unfolding journey_id_of
returns c = rw (← c.after_colons-id.ensures) (or_some c.after_colons-id.result.now _ c.if-id-eq0.false)
