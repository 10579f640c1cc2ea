-- Faults of floats.
use Rattle.std.specs.Prelude.{ℕ, Bool, true, false, not, List, Float, get_or}
use Rattle.std.specs.Float.{nan, inf, fin}
use Rattle.globe.specs.Globe.{on_globe}

-- position k is not on the globe
unfoldable pub off_globe_at : List Float → List Float → ℕ → Bool
off_globe_at lat lon k = not (on_globe (get_or lat k nan) (get_or lon k nan))

-- neither NaN nor an infinity
unfoldable pub is_finite : Float → Bool
is_finite nan = false
is_finite (inf s) = false
is_finite (fin s m e) = true

-- number k is not finite
unfoldable pub not_finite_at : List Float → ℕ → Bool
not_finite_at s k = not (is_finite (get_or s k nan))
