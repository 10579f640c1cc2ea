-- `plans::turn::under_way` meets its contract.
use borrow.Author.Rules.{rules}
use native.Mathlib.Omega.{arith}
use Rattle.plans.proofs.Best.{leg_number}
use Rattle.plans.proofs.Approach.{under_way_is}
use Rattle.plans.proofs.turn.under_way.Goals as goal

pub overflow_add-k-4 : goal.overflow_add-k-4
overflow_add-k-4 c = record { fits = omega (arith, c.requires.k_bound) }

pub returns : goal.returns
returns c =
    under_way_is _ _ _ _ _ _ _ _ _ (leg_number _) c.call_end-from.ensures c.call_end-to.ensures c.moment.ensures c.moment-2.ensures c.leg_fraction-frac.ensures c.walk_leg-walked.ensures
    c.word.ensures c.on_leg.ensures
