-- The Rust has the length in two forms: 2.0 * R * x and R * (2.0 * x). They have the same bits for all floats: x is NaN or within 54, so twice x is exact, and so is
-- twice R. Both forms then round one real number.
use mathlib.Core.Path.{◌≡◌, refl}
use mathlib.Core.Logic.{inl, inr}
use lib.Dec.{T, lit≤}
use lib.Ieee.{Float, binary64, of_int, mul, fits}
use lib.Ieee.Fits.{of_int-fits}
use Rattle.roots.specs.Root.{root_of}
use Rattle.floats.proofs.Whole.{two, double_either}
use Rattle.floats.proofs.Within.{within_finite, within_mul, int_within}
use Rattle.maths.specs.Series.{whole}
use Rattle.arcs.specs.Arcs.{asin_of}
use Rattle.arcs.proofs.Bounds.{Bounded, asin_bounded}
use Rattle.arcs.proofs.Fits.{asin_fits}
use Rattle.sphere_lengths.specs.Length.{radius, haversin_of, haversine_of, geo_haversine_of}
use Rattle.sphere_lengths.proofs.Lengths.{times_nan, diameter_within}

-- ---- the two forms of the length
two_is : whole 2 ≡ two
unfolding of_int
two_is = refl

forms : (x : Float) → T (fits binary64 x) → Bounded 54 x → mul binary64 radius (mul binary64 (whole 2) x) ≡ mul binary64 (mul binary64 (whole 2) radius) x
forms x F (inl e) = rw e (rw (times_nan (whole 2), times_nan radius, times_nan (mul binary64 (whole 2) radius)))
forms x F (inr h) =
    rw two_is
    (double_either binary64 radius x (of_int-fits binary64 _) F (within_finite (int_within binary64 6371000 (lit≤ tt))) (within_finite h) (rw two_is at (within_finite diameter_within))
    (rw two_is at (within_finite (within_mul binary64 {a = 2} {b = 54} (lit≤ tt) (int_within binary64 2 (lit≤ tt)) h))))

pub same_bits : (lat1 lon1 lat2 lon2 : Float) → geo_haversine_of lat1 lon1 lat2 lon2 ≡ haversine_of lat1 lon1 lat2 lon2
unfolding geo_haversine_of haversine_of
same_bits lat1 lon1 lat2 lon2 = let s = root_of (haversin_of lat1 lon1 lat2 lon2) in forms (asin_of s) (asin_fits s) (asin_bounded s)
