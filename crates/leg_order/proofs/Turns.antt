-- Turns of places: each place of leg k has the turn before call k's, and a later turn is no earlier. Assumes nothing.
use Prim.Native.Nat.{ℕ, ◌*◌, ◌-◌, ◌<◌}
use native.Mathlib.Omega.{arith}
use mathlib.Core.Path.{◌≡◌, refl}
use mathlib.Core.Logic.{inl, inr}
use mathlib.Core.Bool.{Bool, true, false, cond}
use mathlib.Core.List.{List}
use lib.Ieee.{Float, le}
use Rattle.floats.specs.Number.{nought, one}
use Rattle.lengths.specs.declared.line.Point.{Point}
use Rattle.stretches.specs.declared.spot.Spot.{Spot}
use Rattle.stretches.specs.declared.spot.Spot.TheVariants.{First, Stretch, Straight, NoStretch}
use Rattle.ways.specs.declared.way.Way.{Way}
use Rattle.paths.specs.Path.{path_kind, path_way, spot_of}
use Rattle.legs.specs.Place.{place_of}
use Rattle.legs.specs.Walk.{start_of, end_of, inside_leg, walk_of}
use Rattle.leg_order.specs.Order.{turn_of, NoEarlier}
use Rattle.paths.specs.declared.path.Path.{Path}
use Rattle.paths.specs.declared.path.Line.{Line}
use Rattle.legs.specs.declared.place.Place.{Place}
use Rattle.legs.specs.declared.place.Place.TheVariants.{Call}

-- a later turn is no earlier
pub later_turn : (p q : Place) → turn_of p < turn_of q → NoEarlier p q
later_turn p q h = inl h

-- a call is no earlier than itself
pub same_call : (k : ℕ) → NoEarlier (Call k) (Call k)
same_call k = inr (refl, tt)

-- nor is a later one
pub later_call : (j k : ℕ) → j < k → NoEarlier (Call j) (Call k)
later_call j k h = inl (omega arith)

-- a spot of leg k
pub spot_turn : (k : ℕ) (kind : Line) (way : Way) (spot : Spot) → turn_of (place_of k kind way spot) ≡ 2 * k - 1
spot_turn k kind way First = refl
spot_turn k kind way (Stretch v t) = refl
spot_turn k kind way (Straight t) = refl
spot_turn k kind way NoStretch = refl

-- every place that a walk of leg k gives
pub walk_turn : (k : ℕ) (shape chain : List Point) (from to : Point) (path : Path) (f : Float) → turn_of (walk_of k shape chain from to path f).place ≡ 2 * k - 1
unfolding walk_of
walk_turn k shape chain from to path f = go (le f nought) (le one f)
  where
    go : (a b : Bool) → turn_of (cond a (start_of k from to) (cond b (end_of k from to) (inside_leg k shape chain from to path f))).place ≡ 2 * k - 1
    go true b = refl
    go false true = refl
    go false false = spot_turn k (path_kind path) (path_way path) (spot_of shape chain path f)
