-- `plans::turn::towards` meets its contract.
use borrow.Author.Rules.{rules}
use borrow.Author.Tests.{lt-ltb}
use mathlib.Core.Path.{◌∙◌}
use Rattle.tables.specs.Pools.{pools}
use Rattle.voyages.specs.Outcome.{towards_at}
use Rattle.plans.specs.Plan.{voyage_from}
use Rattle.plans.proofs.Granted.{matchable, leg_few}
use Rattle.plans.proofs.Turns.{towards_first}
use Rattle.plans.proofs.turn.towards.Goals as goal

pub returns-then-moment-clock : goal.returns-then-moment-clock
unfolding towards_at voyage_from
returns-then-moment-clock c = rw (lt-ltb _ _ (rw c.moment.ensures at c.if-moment-clock.true)) c.departed.ensures

pub sailing_trip-trip-requires : goal.sailing_trip-trip-requires
sailing_trip-trip-requires c =
    let a = c.args in record { ready = (matchable (pools a.lent.now.bytes.now a.lent.now.words.now a.lent.now.times.now a.lent.now.reals.now a.lent.now.dists.now) a.t c.requires).0; in_time = (matchable (pools a.lent.now.bytes.now a.lent.now.words.now a.lent.now.times.now a.lent.now.reals.now a.lent.now.dists.now) a.t c.requires).1.0; in_reach = (matchable (pools a.lent.now.bytes.now a.lent.now.words.now a.lent.now.times.now a.lent.now.reals.now a.lent.now.dists.now) a.t c.requires).1.1 }

pub approach_from-requires : goal.approach_from-requires
approach_from-requires c =
    let a = c.args in
    leg_few (pools a.lent.now.bytes.now a.lent.now.words.now a.lent.now.times.now a.lent.now.reals.now a.lent.now.dists.now) a.t c.requires _ c.sailing_trip-trip.ensures

pub returns : goal.returns
returns c =
    let a = c.args in
    rw c.approach_from.ensures
    (towards_first (pools a.lent.now.bytes.now a.lent.now.words.now a.lent.now.times.now a.lent.now.reals.now a.lent.now.dists.now) a.t a.rows.now a.stops.now a.arrivals.now a.departures.now a.clock _ _ _ _
    (rw c.moment.ensures at c.if-moment-clock.false) c.sailing_trip-trip.ensures c.call_end-to.ensures c.word-stop.ensures c.previous_row-before.ensures)
