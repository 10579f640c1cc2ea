-- Bearings on the globe, in the Rust's order of operations, and measures as operations. Positions are in degrees. Definitions only.
use Rattle.std.specs.Prelude.{cond, Float}
use Rattle.std.specs.Float.{binary64}
use Rattle.std.specs.Float.Ieee.{add, sub, mul, rem}
use Rattle.maths.specs.Series.{whole}
use Rattle.maths.specs.Trig.{sin_of, cos_of, radians_of, degrees_of}
use Rattle.arcs.specs.Arcs.{atan2_of}
use Rattle.refusals.specs.Answer.{Answer, refused, given}
use Rattle.globe.specs.Globe.{both_on_globe}

-- degrees from north, clockwise
unfoldable pub bearing_of : Float → Float → Float → Float → Float
bearing_of lat1 lon1 lat2 lon2 =
    let phi1 = radians_of lat1 in
    let phi2 = radians_of lat2 in
    let dlon = radians_of (sub binary64 lon2 lon1) in
    let y = mul binary64 (sin_of dlon) (cos_of phi2) in
    let x = sub binary64 (mul binary64 (cos_of phi1) (sin_of phi2)) (mul binary64 (mul binary64 (sin_of phi1) (cos_of phi2)) (cos_of dlon)) in
    rem binary64 (add binary64 (degrees_of (atan2_of y x)) (whole 360)) (whole 360)

-- a measure as an operation: refusal 3 for a position off the globe
unfoldable pub measured : (Float → Float → Float → Float → Float) → Float → Float → Float → Float → Answer Float
measured f lat1 lon1 lat2 lon2 = cond (both_on_globe lat1 lon1 lat2 lon2) (given (f lat1 lon1 lat2 lon2)) (refused 3)
