-- What it is that a place and its coordinates agree, and where silence falls. Definitions only.
use Rattle.std.specs.Prelude.{ℕ, suc, ◌+◌, ◌<◌, ◌≡◌, true, false, [], ◌⊎◌, T, Float, length, Option, Some, None}
use Rattle.std.specs.Float.{binary64}
use Rattle.std.specs.Float.Ieee.{fits}
use Rattle.leg_order.specs.Position.{coordinates}
use Rattle.voyages.specs.Voyage.{Leg, Approach, none, over, unplaced, Voyage}
use Rattle.voyages.specs.Outcome.{walk_leg}
use Rattle.voyage_order.specs.Position.{leg_position, position_in}
use Rattle.voyages.specs.declared.record.Placed.{Placed}

-- along leg k the coordinates are those of the place, at every fraction
abbrev pub Agreed : ℕ → Leg → Type 0
Agreed k leg = (f : Float) → T (fits binary64 f) → coordinates (walk_leg k leg f).drawn ≡ leg_position leg (walk_leg k leg f).place

abbrev pub AgreedApproach : Approach → Type 0
AgreedApproach none = Unit {0}
AgreedApproach (over leg run) = Agreed 1 leg

-- along every leg
pub record AgreedLegs (v : Voyage) : Type 0 where
  pub legs : (k : ℕ) → k + 1 < length v.arrs → Agreed (suc (suc k)) (v.leg k)
  pub first : AgreedApproach v.approach

-- the coordinates of an estimate are those of the place beside it
abbrev pub Agrees : Voyage → Option Placed → Type 0
Agrees v (Some a) = ◌≡◌ (record { lat = a.estimate.lat; lon = a.estimate.lon }) (position_in v a.place)
Agrees v None = Unit {0}

-- cancelled, or no call and nowhere to be pinned
abbrev pub Silent : Voyage → Type 0
Silent v = (v.cancelled ≡ true) ⊎ ((v.arrs ≡ []) × (v.pin ≡ unplaced))
