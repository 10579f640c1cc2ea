-- `plans::turn::at_turn` meets its contract. The call of a turn is one of the calls, of which there are no more than 256.
use borrow.Author.Rules.{rules}
use native.Mathlib.Omega.{arith}
use mathlib.Core.Path.{sym, ◌∙◌}
use Rattle.tables.specs.Pools.{pools}
use Rattle.plans.specs.Plan.{voyage_from}
use Rattle.plans.proofs.Granted.{matchable, leg_few, at_below, between_below}
use Rattle.plans.proofs.turn.at_turn.Goals as goal

pub at_call-requires : goal.at_call-requires
at_call-requires c =
    let a = c.args in
    omega (arith, at_below a.clock a.arrivals.now a.departures.now _ (sym c.turn_of-turn.ensures ∙ c.in-At.is), c.requires.arrivals_len_bound)

pub sailing_trip-trip-requires : goal.sailing_trip-trip-requires
sailing_trip-trip-requires c =
    let a = c.args in record { ready = (matchable (pools a.lent.now.bytes.now a.lent.now.words.now a.lent.now.times.now a.lent.now.reals.now a.lent.now.dists.now) a.t c.requires.t_value).0; in_time = (matchable (pools a.lent.now.bytes.now a.lent.now.words.now a.lent.now.times.now a.lent.now.reals.now a.lent.now.dists.now) a.t c.requires.t_value).1.0; in_reach = (matchable (pools a.lent.now.bytes.now a.lent.now.words.now a.lent.now.times.now a.lent.now.reals.now a.lent.now.dists.now) a.t c.requires.t_value).1.1 }

pub under_way-requires : goal.under_way-requires
under_way-requires c =
    let a = c.args in record { trip_bound = leg_few (pools a.lent.now.bytes.now a.lent.now.words.now a.lent.now.times.now a.lent.now.reals.now a.lent.now.dists.now) a.t c.requires.t_value _ c.sailing_trip-trip.ensures; k_bound = omega (arith, between_below a.clock a.arrivals.now a.departures.now _ (sym c.turn_of-turn.ensures ∙ c.in-Between.is), c.requires.arrivals_len_bound) }

pub returns-in-At : goal.returns-in-At
unfolding voyage_from
returns-in-At c = rw (← c.turn_of-turn.ensures, c.in-At.is) c.at_call.ensures

pub returns-in-Between : goal.returns-in-Between
returns-in-Between c = rw (← c.turn_of-turn.ensures, c.in-Between.is, ← c.sailing_trip-trip.ensures) c.under_way.ensures

pub returns-in-Towards : goal.returns-in-Towards
returns-in-Towards c = rw (← c.turn_of-turn.ensures, c.in-Towards.is) c.towards.ensures

pub returns-in-After : goal.returns-in-After
unfolding voyage_from
returns-in-After c = rw (← c.turn_of-turn.ensures, c.in-After.is, ← c.saturating_sub-last.ensures) c.at_call-in-After.ensures
