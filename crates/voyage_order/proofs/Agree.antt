-- The place beside an estimate is the one its coordinates were drawn from. Assumes nothing.
use Rattle.std.specs.Prelude.{Some, None}
use Prim.Native.Nat.{ℕ, zero, suc, ◌+◌, ◌-◌, ◌<◌, ◌≤◌}
use native.Mathlib.Omega.{arith}
use mathlib.Core.Path.{◌≡◌, refl, sym, ap, ◌∙◌}
use mathlib.Core.Bool.{Bool, true, false, cond}
use lib.Dec.{T, eqb, ltb}
use lib.Ieee.{Float, le, binary64, fits}
use lib.ListN.{length}
use Rattle.floats.specs.Number.{nought, one}
use Rattle.ids.proofs.ByteOrder.{clash}
use Rattle.stretches.specs.declared.spot.Spot.{Spot}
use Rattle.stretches.specs.declared.spot.Spot.TheVariants.{First, Stretch, Straight, NoStretch}
use Rattle.ways.specs.declared.way.Way.{Way}
use Rattle.lengths.specs.declared.line.Point.{Point}
use Rattle.paths.specs.Path.{spot_of}
use Rattle.legs.specs.Place.{place_of}
use Rattle.legs.specs.Walk.{walk_of, start_of, end_of, inside_leg}
use Rattle.paths.specs.declared.path.Line.{Line}
use Rattle.paths.specs.declared.status.Status.{Status}
use Rattle.paths.specs.declared.status.Status.TheVariants.{InTransitTo}
use Rattle.timeline.specs.Turn.{time_at, turn_of}
use Rattle.fractions.specs.Fraction.{leg_fraction, approach_fraction}
use Rattle.timeline.specs.declared.turn.Turn.{Turn}
use Rattle.timeline.specs.declared.turn.Turn.TheVariants.{At, Between, Towards, After}
use Rattle.timeline_order.proofs.Fractions.{leg_fraction-fits, approach_fraction-fits}
use Rattle.timeline_order.proofs.Says.{Says, turn_says}
use Rattle.voyages.specs.Record.{at_stop, on_leg}
use Rattle.voyages.specs.Voyage.{Leg, Approach, none, over, Pin, unplaced, pinned, Voyage}
use Rattle.voyages.specs.Outcome.{walk_leg, at_call, under_way_at, approaching, towards_at, at_turn, at_pin, outcome_at}
use Rattle.voyage_order.specs.Position.{leg_numbered, leg_position, call_position, position_in}
use Rattle.voyage_order.specs.Agree.{Agreed, AgreedApproach, AgreedLegs, Agrees}

-- ---- the leg of a walked place is the one that was walked
spot_leg : (v : Voyage) (k : ℕ) (kind : Line) (way : Way) (spot : Spot) → position_in v (place_of k kind way spot) ≡ leg_position (leg_numbered v k) (place_of k kind way spot)
spot_leg v k kind way First = refl
spot_leg v k kind way (Stretch vertex t) = refl
spot_leg v k kind way (Straight t) = refl
spot_leg v k kind way NoStretch = refl

walk_leg_lem : (v : Voyage) (k : ℕ) (leg : Leg) (f : Float) → position_in v (walk_leg k leg f).place ≡ leg_position (leg_numbered v k) (walk_leg k leg f).place
unfolding walk_of
walk_leg_lem v k leg f = go (le f nought) (le one f)
  where
    go : (a b : Bool) →
        let walked = cond a (start_of k leg.from leg.to) (cond b (end_of k leg.from leg.to) (inside_leg k leg.shape leg.chain leg.from leg.to leg.path f)) in
        position_in v walked.place ≡ leg_position (leg_numbered v k) walked.place
    go true b = refl
    go false true = refl
    go false false = spot_leg v k _ _ (spot_of leg.shape leg.chain leg.path f)

module _ (v : Voyage) (agreed : AgreedLegs v) where
  -- on a leg
  on_leg_lem : (clock k : ℕ) → k + 1 < length v.arrs → Agrees v (Some (under_way_at v clock k))
  unfolding under_way_at
  on_leg_lem clock k l =
      let f = leg_fraction clock (time_at v.deps k) (time_at v.arrs (k + 1)) in
      agreed.legs k l f (leg_fraction-fits clock (time_at v.deps k) (time_at v.arrs (k + 1))) ∙ sym (walk_leg_lem v (suc (suc k)) (v.leg k) f)

  -- ---- with a call or more
  module _ (some : eqb (length v.arrs) 0 ≡ false) where
    at_call_lem : (k : ℕ) (status : Status) → Agrees v (Some (at_call v k status))
    unfolding at_stop
    at_call_lem k status = rw some (ap v.position (omega arith))

    on_approach : (clock : ℕ) (a : Approach) → v.approach ≡ a → AgreedApproach a → Agrees v (Some (approaching v clock a))
    on_approach clock none e o = at_call_lem 0 _
    on_approach clock (over leg run) e o =
        let f = approach_fraction clock (time_at v.arrs 0) run in
        o f (approach_fraction-fits clock (time_at v.arrs 0) run) ∙ sym (walk_leg_lem v 1 leg f ∙ rw e refl)

    towards : (clock : ℕ) → Agrees v (Some (towards_at v clock))
    unfolding towards_at
    towards clock = go (ltb (time_at v.deps 0) clock)
      where
        go : (b : Bool) → Agrees v (Some (cond b (at_call v 0 InTransitTo) (approaching v clock v.approach)))
        go true = at_call_lem 0 _
        go false = on_approach clock v.approach refl agreed.first

    turned : (clock : ℕ) (turn : Turn) → Says clock v.arrs v.deps turn → Agrees v (Some (at_turn v clock turn))
    turned clock (At k) s = at_call_lem k _
    turned clock (Between k) s = on_leg_lem clock k s.0
    turned clock Towards s = towards clock
    turned clock After s = at_call_lem (length v.arrs - 1) _

  -- ---- without one
  at_pin_lem : eqb (length v.arrs) 0 ≡ true → (pin : Pin) → v.pin ≡ pin → Agrees v (at_pin pin)
  unfolding at_stop
  at_pin_lem e unplaced p = tt
  at_pin_lem e (pinned stop sequence at) p = rw (e, p) refl

  -- Agreement (demand 2): at every clock the coordinates are those of the place, bit for bit.
  pub voyage_agrees : (clock : ℕ) → Agrees v (outcome_at v clock)
  unfolding outcome_at
  voyage_agrees clock = go v.cancelled (eqb (length v.arrs) 0) refl
    where
      go : (x y : Bool) → eqb (length v.arrs) 0 ≡ y → Agrees v (cond x None (cond y (at_pin v.pin) (Some (at_turn v clock (turn_of clock v.arrs v.deps)))))
      go true y e = tt
      go false true e = at_pin_lem e v.pin refl
      go false false e = turned e clock (turn_of clock v.arrs v.deps) (turn_says clock v.arrs v.deps)
