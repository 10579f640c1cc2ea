-- Lengths of ways on the globe, in the Rust's order of operations. Positions are in degrees. Definitions only.
use Rattle.std.specs.Prelude.{Float}
use Rattle.std.specs.Float.{binary64}
use Rattle.std.specs.Float.Ieee.{add, sub, mul, div}
use Rattle.roots.specs.Root.{root_of}
use Rattle.maths.specs.Series.{whole}
use Rattle.maths.specs.Trig.{sin_of, cos_of, radians_of}
use Rattle.arcs.specs.Arcs.{asin_of}

abbrev pub radius : Float
radius = whole 6371000

abbrev pub square : Float → Float
square x = mul binary64 x x

-- the sine of half the way from a to b, in degrees
abbrev pub half_sine : Float → Float → Float
half_sine a b = sin_of (div binary64 (radians_of (sub binary64 b a)) (whole 2))

-- what both forms of the Rust take the root of
unfoldable pub haversin_of : Float → Float → Float → Float → Float
haversin_of lat1 lon1 lat2 lon2 =
    add binary64 (square (half_sine lat1 lat2))
    (mul binary64 (mul binary64 (cos_of (radians_of lat1)) (cos_of (radians_of lat2))) (square (half_sine lon1 lon2)))

-- metres, as rt/estimate.rs has it: 2.0 * R * a.sqrt().asin()
abbrev pub way_of : Float → Float
way_of a = mul binary64 (mul binary64 (whole 2) radius) (asin_of (root_of a))

unfoldable pub haversine_of : Float → Float → Float → Float → Float
haversine_of lat1 lon1 lat2 lon2 = way_of (haversin_of lat1 lon1 lat2 lon2)

-- metres, as link/geo.rs has it: R * (2.0 * a.sqrt().asin())
unfoldable pub geo_haversine_of : Float → Float → Float → Float → Float
geo_haversine_of lat1 lon1 lat2 lon2 =
    mul binary64 radius (mul binary64 (whole 2) (asin_of (root_of (haversin_of lat1 lon1 lat2 lon2))))
