-- The position that a walk gives is that of its place, bit for bit, at every fraction, for every length, NaN included. Assumes nothing.
use Rattle.std.specs.Prelude.{Option}
use Rattle.unit_scales.specs.declared.metres.Affine.{Affine}
use Prim.Native.Nat.{ℕ}
use mathlib.Core.Path.{◌≡◌, refl}
use mathlib.Core.Logic.{◌⊎◌, inl, inr}
use mathlib.Core.Bool.{Bool, true, false, not, cond}
use mathlib.Core.List.{List}
use lib.Dec.{T}
use lib.Ieee.{Float, binary64, le, fits}
use Rattle.floats.specs.Number.{nought, one}
use Rattle.lengths.specs.declared.line.Point.{Point}
use Rattle.stretches.specs.Drawing.{draw_of, last_of}
use Rattle.stretches.specs.declared.spot.Spot.{Spot}
use Rattle.stretches.specs.declared.spot.Spot.TheVariants.{First, Stretch, Straight, NoStretch}
use Rattle.along_order.proofs.Along.{Inside}
use Rattle.paths.specs.Path.{path_kind, path_line, path_part, path_way, spot_of, path_of}
use Rattle.legs.specs.Place.{place_of}
use Rattle.legs.specs.Walk.{start_of, end_of, inside_leg, walk_of}
use Rattle.leg_order.specs.Position.{coordinates, position_of}
use Rattle.leg_order.specs.Granted.{Chained}
use Rattle.paths.specs.declared.path.Path.{Path}
use Rattle.paths.specs.declared.path.Path.TheVariants.{Straight as Path·straight}
use Rattle.legs.specs.declared.walk.Walked.{Walked}
use Rattle.leg_order.proofs.Spots.{OnPart}
use Rattle.leg_order.proofs.Chosen.{Chosen, straight, path_chosen, Straightly, Partly, on_path}

module _ (k : ℕ) (shape chain : List Point) (from to : Point) where
  -- of a spot
  abbrev Agrees : Path → Spot → Type 0
  Agrees path spot = coordinates (draw_of (path_line shape chain from to path) (path_part shape path) spot) ≡ position_of shape chain from to path (place_of k (path_kind path) (path_way path) spot)

  agrees_on_part : (path : Path) (spot : Spot) → OnPart (path_part shape path) spot → Agrees path spot
  unfolding last_of
  agrees_on_part path First h = absurd h
  agrees_on_part path (Stretch v t) h = refl
  agrees_on_part path (Straight t) h = absurd h
  agrees_on_part path NoStretch h = refl

  agrees_inside : (path : Path) (f : Float) → Inside f → Straightly shape chain from to path ⊎ Partly shape chain from to path → Agrees path (spot_of shape chain path f)
  agrees_inside path f i (inl s) = rw (s.spots f i, s.starts, s.ends)
  agrees_inside path f i (inr p) = agrees_on_part path (spot_of shape chain path f) (p f i)

  -- on every path that can be chosen
  pub agrees : {path : Path} → Chosen shape chain from to path → (f : Float) → T (fits binary64 f) →
      coordinates (walk_of k shape chain from to path f).drawn ≡ position_of shape chain from to path (walk_of k shape chain from to path f).place
  unfolding walk_of
  agrees {path} p f F = go (le f nought) (le one f) (λ a b. agrees_inside path f (record { held = F; above = a; below = b }) (on_path shape chain from to p))
    where
      walked : Bool → Bool → Walked
      walked a b = cond a (start_of k from to) (cond b (end_of k from to) (inside_leg k shape chain from to path f))

      go : (a b : Bool) → (T (not a) → T (not b) → Agrees path (spot_of shape chain path f)) → coordinates (walked a b).drawn ≡ position_of shape chain from to path (walked a b).place
      go true b h = refl
      go false true h = refl
      go false false h = h tt tt

  -- on the path of a trip that is found
  pub walk_agrees : (calibrated : Option Affine) (d₀ d₁ : Option Float) → Chained from to chain → (f : Float) → T (fits binary64 f) →
      let path = path_of shape calibrated d₀ d₁ chain from to in
      coordinates (walk_of k shape chain from to path f).drawn ≡ position_of shape chain from to path (walk_of k shape chain from to path f).place
  walk_agrees calibrated d₀ d₁ c f F = agrees (path_chosen shape chain from to c calibrated d₀ d₁) f F

  -- and where there is none
  pub walk_agrees_straight : (f : Float) → T (fits binary64 f) →
      coordinates (walk_of k shape chain from to Path·straight f).drawn ≡ position_of shape chain from to Path·straight (walk_of k shape chain from to Path·straight f).place
  walk_agrees_straight f F = agrees straight f F
