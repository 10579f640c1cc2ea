-- What a distance is the way of. Assumes nothing.
use mathlib.Core.Path.{◌≡◌, refl}
use lib.Dec.{T}
use lib.Ieee.{binary64, fits}
use lib.Ieee.Fits.{mul-fits}
use Rattle.sphere_lengths.specs.Length.{haversine_of, way_of}
use Rattle.lengths.specs.Line.{metres_of}
use Rattle.lengths.specs.declared.line.Point.{Point}
use Rattle.vertices_within.specs.Near.{aside_of}

-- a distance is the way of what is aside
pub metres_way : (stop v : Point) → metres_of stop v ≡ way_of (aside_of stop v)
unfolding haversine_of
metres_way stop v = refl

pub metres_fits : (stop v : Point) → T (fits binary64 (metres_of stop v))
unfolding haversine_of
metres_fits stop v = mul-fits binary64 _ _
