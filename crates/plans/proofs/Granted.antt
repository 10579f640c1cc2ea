-- What the trip of a sailing comes to where nothing is refused: its rows are few, and it may be matched. Assumes nothing.
use Rattle.std.specs.Prelude.{Option, Some, None}
use Prim.Native.Nat.{ℕ, ◌+◌, ◌<◌, ◌≤◌}
use native.Mathlib.Omega.{arith}
use mathlib.Core.Path.{◌≡◌, refl, subst}
use mathlib.Core.List.{List}
use lib.ListN.{length}
use Rattle.tables.specs.Pools.{Pools}
use Rattle.tables.specs.Bounds.{chart_bounds}
use Rattle.verdicts.specs.Refuse.{refusal_of}
use Rattle.tables.specs.declared.lent.Tables.{Tables}
use Rattle.checks.specs.Operations.{estimate_causes}
use Rattle.matching.specs.Matching.{Ready}
use Rattle.moments.specs.Moments.{InReach}
use Rattle.lent_plans.specs.Plans.{plan_of}
use Rattle.timetable.specs.Timetable.{named_of}
use Rattle.timeline.specs.Turn.{turn_of}
use Rattle.timeline.specs.declared.turn.Turn.{Turn}
use Rattle.timeline.specs.declared.turn.Turn.TheVariants.{At as Alongside, Between}
use Rattle.timeline_order.proofs.Says.{Says, turn_says}
use Rattle.first_departures.specs.Firsts.{first_departure}
use Rattle.sailing_rows.specs.Rows.{offset_of}
use Rattle.sailings.specs.Sailing.{local_at, InTime, sailing_trip}
use Rattle.leg_paths.specs.Leg.{leg_count}
use Rattle.estimate_facts.proofs.Asked.{trip_ready, first_in_time, first_in_reach}
use Rattle.estimate_facts.proofs.Trips.{sailing_trip_is, trip_rows, rows_few}
use Rattle.plans.specs.Plan.{course_of}

module _ (p : Pools) (t : Tables) (e : refusal_of p (estimate_causes chart_bounds t) ≡ 0) where
  -- it may be matched
  pub matchable : Ready p.bytes p.words (named_of t) (plan_of t) × (InTime (first_departure p.bytes t.updates p.times) × InReach (local_at (first_departure p.bytes t.updates p.times) (offset_of p.times t.sailing)))
  matchable = (trip_ready p t e, (first_in_time p t e, first_in_reach p t e))

  few : (trip : Option ℕ) → sailing_trip p.bytes p.words p.times t ≡ trip → leg_count p.words (course_of t) trip ≤ 1000000
  few (Some k) f = omega (arith, trip_rows p t e k (sailing_trip_is p t e k f), rows_few p t e)
  few None f = omega arith

  -- its rows are no more than a million
  pub leg_few : (trip : Option ℕ) → trip ≡ sailing_trip p.bytes p.words p.times t → leg_count p.words (course_of t) trip ≤ 1000000
  leg_few trip f = rw f (few (sailing_trip p.bytes p.words p.times t) refl)

-- the call of a turn is one of the calls
module _ (clock : ℕ) (arrs deps : List ℕ) (k : ℕ) where
  pub at_below : turn_of clock arrs deps ≡ Alongside k → k < length arrs
  at_below f = (subst (λ (u : Turn). Says clock arrs deps u) f (turn_says clock arrs deps)).0

  pub between_below : turn_of clock arrs deps ≡ Between k → k + 1 < length arrs
  between_below f = (subst (λ (u : Turn). Says clock arrs deps u) f (turn_says clock arrs deps)).0
