-- What it is not to go astern, and what of a voyage gives it. Definitions only.
use Rattle.std.specs.Prelude.{ℕ, suc, ◌+◌, ◌<◌, T, Float, length, Option, Some, None}
use Rattle.std.specs.Float.Ieee.{le, fits}
use Rattle.std.specs.Float.{binary64}
use Rattle.leg_order.specs.Order.{NoEarlier}
use Rattle.timeline_order.specs.Order.{Timely}
use Rattle.voyages.specs.Voyage.{Leg, Approach, none, over, Voyage}
use Rattle.voyages.specs.Outcome.{walk_leg}
use Rattle.voyages.specs.declared.record.Placed.{Placed}

-- both are silent, or both are estimates and the second's place is no earlier than the first's
abbrev pub NotAstern : Option Placed → Option Placed → Type 0
NotAstern None None = Unit {0}
NotAstern None (Some b) = ⊥
NotAstern (Some a) None = ⊥
NotAstern (Some a) (Some b) = NoEarlier a.place b.place

-- along leg k a larger fraction gives no earlier place
abbrev pub Ordered : ℕ → Leg → Type 0
Ordered k leg = (f g : Float) → T (fits binary64 f) → T (fits binary64 g) → T (le f g) → NoEarlier (walk_leg k leg f).place (walk_leg k leg g).place

-- along the leg to the first call, if there is one
abbrev pub OrderedApproach : Approach → Type 0
OrderedApproach none = Unit {0}
OrderedApproach (over leg run) = Ordered 1 leg

-- times in order, and places in order along every leg
pub record Steady (v : Voyage) : Type 0 where
  pub timely : Timely v.arrs v.deps
  pub legs : (k : ℕ) → k + 1 < length v.arrs → Ordered (suc (suc k)) (v.leg k)
  pub first : OrderedApproach v.approach
