-- What a voyage comes to at a clock. Definitions only.
use Rattle.std.specs.Prelude.{ℕ, suc, ◌+◌, ◌-◌, cond, eqb, ltb, Float, length, Option, Some, None}
use Rattle.timeline.specs.Turn.{time_at, turn_of}
use Rattle.fractions.specs.Fraction.{leg_fraction, approach_fraction, is_incoming}
use Rattle.timeline.specs.declared.turn.Turn.{Turn}
use Rattle.timeline.specs.declared.turn.Turn.TheVariants.{At, Between, Towards, After}
use Rattle.legs.specs.Walk.{walk_of}
use Rattle.paths.specs.declared.status.Status.{Status}
use Rattle.paths.specs.declared.status.Status.TheVariants.{StoppedAt, IncomingAt, InTransitTo}
use Rattle.legs.specs.declared.walk.Walked.{Walked}
use Rattle.voyages.specs.Record.{at_stop, on_leg}
use Rattle.voyages.specs.Voyage.{Leg, Approach, none, over, Pin, unplaced, pinned, Voyage}
use Rattle.voyages.specs.declared.record.Placed.{Placed}

-- leg k, counted from 1, walked to a fraction of it
abbrev pub walk_leg : ℕ → Leg → Float → Walked
walk_leg k leg frac = walk_of k leg.shape leg.chain leg.from leg.to leg.path frac

-- the status of an approach: nearly over, whatever the path, else the path's
abbrev pub approach_status : Float → Walked → Status
approach_status frac walked = cond (is_incoming frac) IncomingAt walked.status

-- without a call: at the best stop, as if it were call 1
abbrev pub at_pin : Pin → Option Placed
at_pin unplaced = None
at_pin (pinned stop sequence at) = Some (at_stop 1 at InTransitTo stop sequence)

module _ (v : Voyage) where
  -- at call k
  abbrev pub at_call : ℕ → Status → Placed
  at_call k status = at_stop (suc k) (v.position k) status (v.stop k) (v.sequence k)

  -- on the leg from call k to the next, which is leg k + 2 counted from 1
  unfoldable pub under_way_at : ℕ → ℕ → Placed
  under_way_at clock k =
      let walked = walk_leg (suc (suc k)) (v.leg k) (leg_fraction clock (time_at v.deps k) (time_at v.arrs (k + 1))) in
      on_leg walked walked.status (v.stop (k + 1)) (v.sequence (k + 1))

  -- towards the first call: on the leg to it, or at it where no stop is before it
  abbrev pub approaching : ℕ → Approach → Placed
  approaching clock none = at_call 0 IncomingAt
  approaching clock (over leg run) =
      let frac = approach_fraction clock (time_at v.arrs 0) run in
      let walked = walk_leg 1 leg frac in
      on_leg walked (approach_status frac walked) (v.stop 0) (v.sequence 0)

  -- the same, unless she has departed, which is so of a single call only where its times are in order
  unfoldable pub towards_at : ℕ → Placed
  towards_at clock = cond (ltb (time_at v.deps 0) clock) (at_call 0 InTransitTo) (approaching clock v.approach)

  abbrev pub at_turn : ℕ → Turn → Placed
  at_turn clock (At k) = at_call k StoppedAt
  at_turn clock (Between k) = under_way_at clock k
  at_turn clock Towards = towards_at clock
  at_turn clock After = at_call (length v.arrs - 1) StoppedAt

  -- None is silence, which falls exactly where the sailing is cancelled, or has no call and its best stop cannot be placed, which is so too where it has no updates.
  unfoldable pub outcome_at : ℕ → Option Placed
  outcome_at clock =
      cond v.cancelled None (cond (eqb (length v.arrs) 0) (at_pin v.pin) (Some (at_turn clock (turn_of clock v.arrs v.deps))))
