use borrow.Author.Rules.{rules}
use mathlib.Core.Path.{◌∙◌, sym, subst}
use mir.Facts.{to_z-of_z}
use mir.Syntax.{w64}
use Rattle.moments.specs.Moments.{InReach}
use Rattle.timetable.specs.Timetable.{journey_trip}
use Rattle.asked_journey.proofs.local.Reads as local-reads
use Rattle.asked_journey.proofs.route.Reads as route-reads
use Rattle.ids.proofs.id.Reads as id-reads
use Rattle.asked_journey.proofs.departs.Reads as departs-reads
use Rattle.moments.proofs.today.Reads as today-reads
use Rattle.moments.proofs.yesterday.Reads as yesterday-reads
use Rattle.matching.proofs.resolve.Reads as resolve-reads
use Rattle.timetable.proofs.matched.trip_of.Goals as goal

pub local-at-requires : goal.local-at-requires
local-at-requires c = c.requires.in_reach

pub today-requires : goal.today-requires
today-requires c = subst InReach (sym (to_z-of_z {w = w64} (record { sfits = c.local-at.type_inv }) ∙ c.local-at.ensures)) c.requires.in_reach

pub yesterday-requires : goal.yesterday-requires
yesterday-requires c = subst InReach (sym (to_z-of_z {w = w64} (record { sfits = c.local-at.type_inv }) ∙ c.local-at.ensures)) c.requires.in_reach

pub resolve-requires : goal.resolve-requires
resolve-requires c = rw c.plan_of.ensures c.requires.ready

pub returns : goal.returns
unfolding journey_trip
returns c = rw (c.resolve.ensures, c.yesterday.ensures, c.today.ensures, to_z-of_z {w = w64} (record { sfits = c.local-at.type_inv }), c.departs.ensures, c.route.ensures, c.id.ensures, c.local-at.ensures, c.plan_of.ensures)
