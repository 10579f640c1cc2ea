-- `plans::turn::approach_from` meets its contract.
use borrow.Author.Rules.{rules}
use Rattle.tables.specs.Pools.{pools}
use Rattle.plans.specs.Plan.{voyage_from}
use Rattle.plans.proofs.Approach.{approach_is}
use Rattle.plans.proofs.turn.approach_from.Goals as goal

pub returns-in_default : goal.returns-in_default
unfolding voyage_from
returns-in_default c = rw c.in_default.is c.at_call.ensures

pub returns : goal.returns
returns c =
    let a = c.args in
    rw c.in-Some.is
    (approach_is (pools a.lent.now.bytes.now a.lent.now.words.now a.lent.now.times.now a.lent.now.reals.now a.lent.now.dists.now) a.t a.trip a.rows.now a.stops.now a.arrivals.now a.departures.now a.clock _ c.row_end-from.ensures c.call_end-to.ensures c.run_seconds-run.ensures c.moment.ensures c.approach_fraction-frac.ensures c.walk_leg-walked.ensures
    c.approach_status-status.ensures c.word.ensures c.on_leg.ensures)
