-- Along a leg a larger fraction gives no earlier place. Assumes nothing.
use Rattle.std.specs.Prelude.{Option}
use Rattle.unit_scales.specs.declared.metres.Affine.{Affine}
use Prim.Native.Nat.{ℕ, ◌*◌, ◌-◌, ◌<◌, ◌≤◌}
use native.Mathlib.Omega.{arith}
use mathlib.Core.Path.{◌≡◌, refl, sym}
use mathlib.Core.Logic.{◌⊎◌, inl, inr}
use mathlib.Core.Bool.{Bool, true, false, not, cond}
use mathlib.Core.List.{List}
use lib.Dec.{T}
use lib.Ieee.{Float, binary64, le, fits}
use lib.ListN.{length}
use Rattle.floats.specs.Number.{nought, one}
use Rattle.floats.proofs.Order.{trans_le}
use Rattle.lengths.specs.declared.line.Point.{Point}
use Rattle.line_parts.specs.Part.{stretches}
use Rattle.line_parts.specs.declared.part.Part.{Part}
use Rattle.stretches.specs.declared.spot.Spot.{Spot}
use Rattle.stretches.specs.declared.spot.Spot.TheVariants.{First, Stretch, Straight, NoStretch}
use Rattle.ways.specs.declared.way.Way.{Way}
use Rattle.ways.specs.declared.way.Way.TheVariants.{With, Against}
use Rattle.along_order.specs.Order.{NoEarlier as Spot·noEarlier}
use Rattle.along_order.proofs.Along.{Inside}
use Rattle.paths.specs.Path.{path_kind, path_part, path_way, spot_of, path_of}
use Rattle.legs.specs.Place.{place_of}
use Rattle.legs.specs.Walk.{start_of, end_of, inside_leg, walk_of}
use Rattle.leg_order.specs.Order.{turn_of, Along, InLeg, NoEarlier}
use Rattle.leg_order.specs.Granted.{Chained, Granted}
use Rattle.paths.specs.declared.path.Path.{Path}
use Rattle.paths.specs.declared.path.Path.TheVariants.{Straight as Path·straight}
use Rattle.paths.specs.declared.path.Line.{Line}
use Rattle.legs.specs.declared.place.Place.TheVariants.{End}
use Rattle.legs.specs.declared.walk.Walked.{Walked}
use Rattle.leg_order.proofs.Turns.{spot_turn}
use Rattle.leg_order.proofs.Spots.{OnPart}
use Rattle.leg_order.proofs.Chosen.{Chosen, straight, path_chosen, Straightly, Partly, on_path, path_few, spots_onward}

-- ---- from spots to places

module _ (k : ℕ) (kind : Line) (part : Part) where
  with_stretch : (v w : ℕ) (t u : Float) → Spot·noEarlier part With (Stretch v t) (Stretch w u) → Along With v t w u
  with_stretch v w t u (inl h) = inl (omega arith)
  with_stretch v w t u (inr h) = inr (omega (arith, h.0), h.1)

  against_stretch : (v w : ℕ) (t u : Float) → Spot·noEarlier part Against (Stretch v t) (Stretch w u) → Along Against v t w u
  against_stretch v w t u (inl h) = inl (omega arith)
  against_stretch v w t u (inr h) = inr (omega (arith, h.0), h.1)

  -- with its vertices no stretch comes after the last vertex
  with_last : (v : ℕ) (t : Float) → v < part.last → Spot·noEarlier part With NoStretch (Stretch v t) → ⊥
  with_last v t b (inl h) = omega arith
  with_last v t b (inr h) = omega (arith, h.0)

  -- nor does the last vertex against them
  against_last : (v : ℕ) (t : Float) → v < part.last → Spot·noEarlier part Against (Stretch v t) NoStretch → ⊥
  against_last v t b (inl h) = omega arith
  against_last v t b (inr h) = omega (arith, h.0)

  from_stretch : (way : Way) (v : ℕ) (t : Float) (q : Spot) → v < part.last → OnPart part q → Spot·noEarlier part way (Stretch v t) q → InLeg (place_of k kind way (Stretch v t)) (place_of k kind way q)
  from_stretch way v t First a b h = absurd b
  from_stretch With v t (Stretch w u) a b h = (refl, refl, with_stretch v w t u h)
  from_stretch Against v t (Stretch w u) a b h = (refl, refl, against_stretch v w t u h)
  from_stretch way v t (Straight u) a b h = absurd b
  from_stretch With v t NoStretch a b h = (refl, refl, refl)
  from_stretch Against v t NoStretch a b h = absurd (against_last v t a h)

  from_none : (way : Way) (q : Spot) → OnPart part q → Spot·noEarlier part way NoStretch q → InLeg (place_of k kind way NoStretch) (place_of k kind way q)
  from_none way First b h = absurd b
  from_none With (Stretch w u) b h = absurd (with_last w u b.1 h)
  from_none Against (Stretch w u) b h = (refl, refl, refl)
  from_none way (Straight u) b h = absurd b
  from_none way NoStretch b h = (refl, refl)

  in_leg : (way : Way) (p q : Spot) → OnPart part p → OnPart part q → Spot·noEarlier part way p q → InLeg (place_of k kind way p) (place_of k kind way q)
  in_leg way First q a b h = absurd a
  in_leg way (Stretch v t) q a b h = from_stretch way v t q a.1 b h
  in_leg way (Straight t) q a b h = absurd a
  in_leg way NoStretch q a b h = from_none way q b h

-- the leg's end is after every spot
end_last : (k : ℕ) (kind : Line) (way : Way) (p : Spot) → InLeg (place_of k kind way p) (End k)
end_last k kind way First = tt
end_last k kind way (Stretch v t) = tt
end_last k kind way (Straight t) = tt
end_last k kind way NoStretch = tt

-- ---- along a leg

module _ (k : ℕ) (shape chain : List Point) (from to : Point) where
  -- strictly between its ends
  abbrev Goes : Path → Float → Float → Type 0
  Goes path f g = InLeg (place_of k (path_kind path) (path_way path) (spot_of shape chain path f)) (place_of k (path_kind path) (path_way path) (spot_of shape chain path g))

  goes_inside : (path : Path) (f g : Float) → Inside f → Inside g → T (le f g) → Spot·noEarlier (path_part shape path) (path_way path) (spot_of shape chain path f) (spot_of shape chain path g) →
      Straightly shape chain from to path ⊎ Partly shape chain from to path → Goes path f g
  goes_inside path f g i j h n (inl s) = rw (s.spots f i, s.spots g j) (refl, refl, inr (refl, h))
  goes_inside path f g i j h n (inr p) = in_leg k (path_kind path) (path_part shape path) (path_way path) (spot_of shape chain path f) (spot_of shape chain path g) (p f i) (p g j) n

  -- on every path that can be chosen
  pub never_earlier : {path : Path} → Chosen shape chain from to path → Granted shape chain path → stretches (path_part shape path) ≤ 4194304 →
      (f g : Float) → T (fits binary64 f) → T (fits binary64 g) → T (le f g) → NoEarlier (walk_of k shape chain from to path f).place (walk_of k shape chain from to path g).place
  unfolding walk_of
  never_earlier {path} p granted few f g F G h =
      go (le f nought) (le one f) (le g nought) (le one g) (trans_le f g nought h) (λ x. trans_le one f g x h)
      (λ x y z w. goes_inside path f g (record { held = F; above = x; below = y }) (record { held = G; above = z; below = w }) h (spots_onward shape chain from to p granted few f g h)
      (on_path shape chain from to p))
    where
      walked : Bool → Bool → Float → Walked
      walked x y r = cond x (start_of k from to) (cond y (end_of k from to) (inside_leg k shape chain from to path r))

      turn : (r : Float) → turn_of (inside_leg k shape chain from to path r).place ≡ 2 * k - 1
      turn r = spot_turn k (path_kind path) (path_way path) (spot_of shape chain path r)

      go : (x y z w : Bool) → (T z → T x) → (T y → T w) → (T (not x) → T (not y) → T (not z) → T (not w) → Goes path f g) → NoEarlier (walked x y f).place (walked z w g).place
      go true y true w p q r = inr (refl, tt)
      go true y false true p q r = inr (refl, tt)
      go true y false false p q r = inr (sym (turn g), tt)
      go false y true w p q r = absurd (p tt)
      go false true false true p q r = inr (refl, tt)
      go false true false false p q r = absurd (q tt)
      go false false false true p q r = inr (turn f, end_last k (path_kind path) (path_way path) (spot_of shape chain path f))
      go false false false false p q r = inr (rw (turn f, turn g) refl, r tt tt tt tt)

  -- on the path of a trip that is found
  pub walk_never_earlier : (calibrated : Option Affine) (d₀ d₁ : Option Float) → Chained from to chain → length shape ≤ 8192 → length chain ≤ 1000002 →
      let path = path_of shape calibrated d₀ d₁ chain from to in
      Granted shape chain path → (f g : Float) → T (fits binary64 f) → T (fits binary64 g) → T (le f g) →
      NoEarlier (walk_of k shape chain from to path f).place (walk_of k shape chain from to path g).place
  walk_never_earlier calibrated d₀ d₁ c a b granted f g F G h =
      let p = path_chosen shape chain from to c calibrated d₀ d₁ in never_earlier p granted (path_few shape chain from to p a b) f g F G h

  -- and where there is none
  pub walk_never_earlier_straight : (f g : Float) → T (fits binary64 f) → T (fits binary64 g) → T (le f g) →
      NoEarlier (walk_of k shape chain from to Path·straight f).place (walk_of k shape chain from to Path·straight g).place
  walk_never_earlier_straight f g F G h = never_earlier straight (record { lengths = tt; distances = tt }) (omega arith) f g F G h
