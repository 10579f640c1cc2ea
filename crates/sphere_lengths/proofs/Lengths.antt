-- A length is NaN or within 2 ^ 30 metres, for all floats, whether or not they are positions on the globe: the arc sine is NaN or within 54, and 54 times the
-- diameter of 12,742,000 metres is 688,068,000. So no length is infinite. What the arc sine is taken of plays no part.
use mathlib.Core.Path.{◌≡◌, refl, subst}
use mathlib.Core.Logic.{inl, inr}
use Prim.Native.Nat.{ℕ, ◌*◌, ◌^◌, ◌≤◌}
use mathlib.Core.Bool.{Bool}
use lib.Dec.{T, lit≤}
use lib.Ieee.{Float, nan, inf, binary64, mul}
use Rattle.roots.specs.Root.{root_of}
use Rattle.floats.proofs.Order.{number}
use Rattle.floats.proofs.Products.{mul_comm}
use Rattle.floats.proofs.Within.{Within, within_finite, within_mul, int_within}
use Rattle.maths.specs.Series.{whole}
use Rattle.arcs.proofs.Bounds.{Bounded, bounded_weaken, asin_bounded}
use Rattle.sphere_lengths.specs.Length.{radius, haversin_of, haversine_of}

-- ---- a product with NaN, and one with a bounded value
pub times_nan : (x : Float) → mul binary64 x nan ≡ nan
times_nan x = rw (mul_comm binary64 x nan) (unfold mul in refl)

times_bounded : {m n : ℕ} (x y : Float) → m * n ≤ 2 ^ 53 → Within m x → Bounded n y → Bounded (m * n) (mul binary64 x y)
times_bounded x y N h (inl e) = inl (rw e (times_nan x))
times_bounded x y N h (inr k) = inr (within_mul binary64 N h k)

-- ---- lengths
pub diameter_within : Within 12742000 (mul binary64 (whole 2) radius)
diameter_within = within_mul binary64 {a = 2} {b = 6371000} (lit≤ tt) (int_within binary64 2 (lit≤ tt)) (int_within binary64 6371000 (lit≤ tt))

module _ (lat1 lon1 lat2 lon2 : Float) where
  pub length_bounded : Bounded (2 ^ 30) (haversine_of lat1 lon1 lat2 lon2)
  unfolding haversine_of
  length_bounded =
      bounded_weaken (lit≤ tt) (times_bounded {m = 12742000} {n = 54} _ _ (lit≤ tt) diameter_within (asin_bounded (root_of (haversin_of lat1 lon1 lat2 lon2))))

  pub never_infinite : (s : Bool) → haversine_of lat1 lon1 lat2 lon2 ≡ inf s → ⊥
  never_infinite s e = elim (rw e at length_bounded) [ inl h ↦ subst (λ (x : Float). T (number x)) h tt | inr h ↦ within_finite h ]
