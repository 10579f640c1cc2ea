-- The coordinates of a place of a voyage. Definitions only.
use Rattle.std.specs.Prelude.{ℕ, zero, suc, ◌-◌, cond, eqb, length}
use Rattle.lengths.specs.Line.{nowhere}
use Rattle.lengths.specs.declared.line.Point.{Point}
use Rattle.leg_order.specs.Position.{position_of}
use Rattle.legs.specs.declared.place.Place.{Place}
use Rattle.legs.specs.declared.place.Place.TheVariants.{Call, Start, End, Stretch, NoStretch}
use Rattle.voyages.specs.Voyage.{Leg, Approach, none, over, Pin, unplaced, pinned, Voyage}

-- leg k, counted from 1; leg 1 is the one to the first call. Where there is none, any leg.
abbrev pub approach_leg : Voyage → Approach → Leg
approach_leg v none = v.leg 0
approach_leg v (over leg run) = leg

abbrev pub leg_numbered : Voyage → ℕ → Leg
leg_numbered v zero = v.leg 0
leg_numbered v (suc zero) = approach_leg v v.approach
leg_numbered v (suc (suc k)) = v.leg k

-- where she is pinned
abbrev pub pin_point : Pin → Point
pin_point unplaced = nowhere
pin_point (pinned stop sequence at) = at

-- a call's: its stop's own; without a call, the pin's, which counts as call 1
abbrev pub call_position : Voyage → ℕ → Point
call_position v k = cond (eqb (length v.arrs) 0) (pin_point v.pin) (v.position (k - 1))

-- a place's on a leg
abbrev pub leg_position : Leg → Place → Point
leg_position leg place = position_of leg.shape leg.chain leg.from leg.to leg.path place

-- Document 01's rule: the stop's own at a call and at a leg's start and end, the last vertex where no stretch was met, else the Rust's interpolation on the stretch with the fraction.
abbrev pub position_in : Voyage → Place → Point
position_in v (Call k) = call_position v k
position_in v (Start k) = leg_position (leg_numbered v k) (Start k)
position_in v (End k) = leg_position (leg_numbered v k) (End k)
position_in v (Stretch k line way vertex t) = leg_position (leg_numbered v k) (Stretch k line way vertex t)
position_in v (NoStretch k line way) = leg_position (leg_numbered v k) (NoStretch k line way)
