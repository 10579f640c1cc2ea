-- Which positions are on the globe. Definitions only.
use Rattle.std.specs.Prelude.{ℕ, Bool, ◌&&◌, pos, Float}
use Rattle.std.specs.Float.{binary64}
use Rattle.std.specs.Float.Ieee.{of_int, neg, le}

-- from -n to n; a NaN is not
unfoldable pub within : ℕ → Float → Bool
within n x = le (neg (of_int binary64 (pos n))) x && le x (of_int binary64 (pos n))

-- latitude -90..90, longitude -180..180
unfoldable pub on_globe : Float → Float → Bool
on_globe lat lon = within 90 lat && within 180 lon

unfoldable pub both_on_globe : Float → Float → Float → Float → Bool
both_on_globe lat1 lon1 lat2 lon2 = on_globe lat1 lon1 && on_globe lat2 lon2
