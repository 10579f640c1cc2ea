use borrow.Author.Rules.{rules}
use mathlib.Core.Path.{◌∙◌, sym}
use Rattle.trip_ids.specs.Trips.{trip_of}
use Rattle.made_ids.specs.Made.{built_of}
use Rattle.made_ids.proofs.made.built.Goals as goal

pub returns-then-is_uuid : goal.returns-then-is_uuid
unfolding built_of trip_of
returns-then-is_uuid c = rw (c.trip_at.ensures, c.find_joined.ensures, c.feed.ensures, c.journey_id-j.ensures, sym (rw c.journey_id-j.ensures at c.is_uuid.ensures) ∙ c.if-is_uuid.true)

pub returns : goal.returns
unfolding built_of trip_of
returns c = rw (sym (rw c.journey_id-j.ensures at c.is_uuid.ensures) ∙ c.if-is_uuid.false)
