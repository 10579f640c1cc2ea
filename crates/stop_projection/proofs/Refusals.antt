-- Which refusal of a step applies. Assumes nothing.
use Prim.Native.Nat.{ℕ, ◌<◌, ◌≤◌, min}
use native.Mathlib.Omega.{arith}
use mathlib.Core.Path.{◌≡◌, refl, sym, ◌∙◌}
use mathlib.Core.Bool.{Bool, true, false, cond}
use mathlib.Core.List.{List}
use borrow.Author.Tests.{eq-eqb, ne_eqb, lt-ltb, le-ltb}
use lib.Ieee.{Float}
use lib.ListN.{length}
use Rattle.column_floats.specs.Real.{off_globe_at}
use Rattle.columns.specs.Rows.{among, counts, some}
use Rattle.globe.specs.Globe.{on_globe}
use Rattle.lengths.specs.declared.line.Point.{Point}
use Rattle.stop_projection.specs.Step.{step_refusal}

module _ (lat lon : List Float) (stop : Point) where
  pub unequal : (length lat ≡ length lon → ⊥) → 1 ≡ step_refusal lat lon stop
  unfolding step_refusal
  unequal h = rw (ne_eqb _ _ h)

  module _ (e : length lat ≡ length lon) where
    pub too_many : 8192 < length lat → 2 ≡ step_refusal lat lon stop
    unfolding step_refusal
    too_many h = rw (eq-eqb _ _ e, lt-ltb _ _ h)

    module _ (h : length lat ≤ 8192) (flags : List ℕ) where
      -- every row is tested
      rows : some (among true flags (off_globe_at lat lon)) (min (length lat) (length lon)) ≡ some (off_globe_at lat lon) (length lat)
      unfolding among counts
      rows = let m : min (length lat) (length lon) ≡ length lat = omega arith in rw m

      pub point_off : {r : Bool} → r ≡ some (among true flags (off_globe_at lat lon)) (min (length lat) (length lon)) → r ≡ true → 3 ≡ step_refusal lat lon stop
      unfolding step_refusal
      point_off q t = rw (eq-eqb _ _ e, le-ltb _ _ h, sym (sym t ∙ q ∙ rows))

      -- where all points are on the globe, the stop decides
      pub stop_decides : {r : Bool} → r ≡ some (among true flags (off_globe_at lat lon)) (min (length lat) (length lon)) → r ≡ false →
          {s : Bool} → s ≡ on_globe stop.lat stop.lon → cond s 0 3 ≡ step_refusal lat lon stop
      unfolding step_refusal
      stop_decides q t o = rw (eq-eqb _ _ e, le-ltb _ _ h, sym (sym t ∙ q ∙ rows), o)
