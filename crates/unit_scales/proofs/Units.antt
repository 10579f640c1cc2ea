-- The first unit that a ratio is near, looked for one by one. Assumes nothing.
use Rattle.std.proofs.Common.{◌≡◌, ℕ, ◌+◌, ◌<◌, true, false, List, length, get_or, drop, drop-cons, add-one}
use Rattle.std.specs.Prelude.{Float}
use Rattle.std.specs.Float.{nan}
use Rattle.unit_scales.specs.Scale.{near_unit, first_near}

module _ (units : List Float) (i : ℕ) (ratio : Float) where
  pub near_here : near_unit ratio (get_or units i nan) ≡ true → i < length units → first_near (drop i units) ratio ≡ get_or units i nan
  unfolding first_near
  near_here t h = rw (drop-cons units i nan h, t)

  pub near_later : near_unit ratio (get_or units i nan) ≡ false → i < length units → first_near (drop i units) ratio ≡ first_near (drop (i + 1) units) ratio
  unfolding first_near
  near_later f h = rw (add-one, drop-cons units i nan h, f)
