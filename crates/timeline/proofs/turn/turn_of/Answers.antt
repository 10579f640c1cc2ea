-- `timeline::turn::turn_of` meets its contract.
use mathlib.Core.Path.{sym, ◌∙◌}
use Rattle.timeline.specs.Turn.{turn_of}
use Rattle.timeline.proofs.turn.turn_of.Goals as goal

pub returns-in-Some : goal.returns-in-Some
unfolding turn_of
returns-in-Some c = rw (sym c.call_at-call.ensures ∙ c.in-Some.is)

pub returns-in-Some-leg : goal.returns-in-Some-leg
unfolding turn_of
returns-in-Some-leg c =
    rw (sym c.call_at-call.ensures ∙ c.in_default.is, sym c.leg_at-leg.ensures ∙ c.in-Some-leg.is)

pub returns : goal.returns
unfolding turn_of
returns c =
    rw (sym c.call_at-call.ensures ∙ c.in_default.is, sym c.leg_at-leg.ensures ∙ c.in_default-leg.is) c.edge.ensures
