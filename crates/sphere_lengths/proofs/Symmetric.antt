-- A length is the same both ways, to the bit and for all floats: the differences of the two positions turn their signs, at most, and the sines of their halves are squared.
use mathlib.Core.Path.{◌≡◌}
use mathlib.Core.Logic.{inl, inr}
use lib.Ieee.{Float, binary64, sub, div}
use Rattle.floats.proofs.Products.{mul_comm}
use Rattle.floats.proofs.Signs.{Turned, sub_turned, neg-div, square_neg}
use Rattle.maths.specs.Series.{whole}
use Rattle.maths.specs.Trig.{sin_of, cos_of, radians_of}
use Rattle.maths.proofs.Odd.{radians_odd, sin_odd}
use Rattle.sphere_lengths.specs.Length.{square, half_sine, haversin_of, haversine_of}

abbrev half_square : Float → Float
half_square d = square (sin_of (div binary64 (radians_of d) (whole 2)))

half_square_turned : (d e : Float) → Turned d e → half_square e ≡ half_square d
half_square_turned d e (inl h) = rw (h, radians_odd d, neg-div binary64 (radians_of d) (whole 2), sin_odd (div binary64 (radians_of d) (whole 2))) (square_neg binary64 (sin_of (div binary64 (radians_of d) (whole 2))))
half_square_turned d e (inr h) = rw h

half_sine_symmetric : (a b : Float) → square (half_sine a b) ≡ square (half_sine b a)
half_sine_symmetric a b = half_square_turned (sub binary64 a b) (sub binary64 b a) (sub_turned binary64 a b)

pub length_symmetric : (lat1 lon1 lat2 lon2 : Float) → haversine_of lat1 lon1 lat2 lon2 ≡ haversine_of lat2 lon2 lat1 lon1
unfolding haversine_of haversin_of
length_symmetric lat1 lon1 lat2 lon2 =
    rw (half_sine_symmetric lat1 lat2, half_sine_symmetric lon1 lon2, mul_comm binary64 (cos_of (radians_of lat1)) (cos_of (radians_of lat2)))
