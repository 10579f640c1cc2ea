-- The estimate as document 01 publishes it: the first refusal that applies, its number alone, or the estimate with its place, or none in silence. Definitions only.
use Rattle.std.specs.Prelude.{Option}
use Rattle.refusals.specs.Answer.{Answer}
use Rattle.answers.specs.Answers.{unless_refused}
use Rattle.tables.specs.Pools.{Pools}
use Rattle.tables.specs.Bounds.{chart_bounds}
use Rattle.verdicts.specs.Refuse.{refusal_of}
use Rattle.tables.specs.declared.lent.Tables.{Tables}
use Rattle.checks.specs.Operations.{estimate_causes}
use Rattle.sailing_rows.specs.Rows.{clock_of}
use Rattle.timeline.specs.Turn.{turn_of}
use Rattle.voyages.specs.Outcome.{at_turn, outcome_at}
use Rattle.voyages.specs.declared.record.Placed.{Placed}
use Rattle.plans.specs.Plan.{voyage_of}

-- the estimate of the lent tables
unfoldable pub estimate_of : Pools → Tables → Answer (Option Placed)
estimate_of p t = unless_refused (refusal_of p (estimate_causes chart_bounds t)) (outcome_at (voyage_of p t) (clock_of p.times t.sailing))

-- its part where there is a call
unfoldable pub called_of : Pools → Tables → Placed
called_of p t =
    let v = voyage_of p t in
    let clock = clock_of p.times t.sailing in
    at_turn v clock (turn_of clock v.arrs v.deps)
