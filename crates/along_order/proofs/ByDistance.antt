-- Between two distances a larger fraction gives no earlier place. Assumes nothing.
use Rattle.std.specs.Prelude.{Option, Some, None}
use Prim.Native.Nat.{◌*◌, ◌^◌}
use native.Mathlib.Omega.{arith}
use mathlib.Core.Path.{◌≡◌, subst}
use mathlib.Core.Bool.{Bool, true, false, true≢false, not, cond}
use mathlib.Core.List.{List}
use lib.Dec.{T, lit≤}
use lib.Ieee.{Float, nan, inf, fin, binary32, up, down, fits, binary64, add, sub, mul, lt, le}
use lib.Ieee.Fits.{add-fits, sub-fits, round-fits, fits_widens}
use lib.Ieee.Scale.{finite}
use Rattle.floats.specs.Number.{nought, one}
use Rattle.floats.proofs.Order.{number, finite_number, le-number_left, le-number_right, trans_le, lt-le, not_le-lt, le-finite}
use Rattle.floats.proofs.Sums.{sub_number, sub_nonneg, sub-le, add_mono_right, add_nonneg}
use Rattle.floats.proofs.Products.{mul-number, mul_mono_right, mul_nonneg, mul-le}
use Rattle.floats.proofs.Within.{Within, fits_within, le_within, within_finite, held_power, add_held}
use Rattle.ieee.specs.Number.{abs_of, clamp01_of}
use Rattle.float_bits.specs.Single.{narrow_of}
use Rattle.lengths.specs.declared.line.Point.{Point}
use Rattle.line_parts.specs.Part.{stretches, whole_of, length_from}
use Rattle.first_stretch.specs.Search.{micro, stretch_at}
use Rattle.ways.specs.declared.way.Way.{Way}
use Rattle.ways.specs.declared.way.Way.TheVariants.{With, Against}
use Rattle.spans.specs.Span.{half, spread, span_of, target_of, feed_metres}
use Rattle.by_distance.specs.Interpolate.{spot_over}
use Rattle.spans.specs.declared.span.Span.{Span}
use Rattle.along_order.specs.Order.{NoEarlier}
use Rattle.along_order.specs.Granted.{Lengths, Distance}
use Rattle.along_order.proofs.Clamp.{clamp_low, clamp_high, clamp_mono, micro_pos, Aim}
use Rattle.along_order.proofs.Search.{Before, search_mono}
use Rattle.along_order.proofs.Sums.{rising}
use Rattle.along_order.proofs.Turned.{sails_unit}

-- ---- targets between two distances in order

module _ (lo hi : Float) (L : Distance lo) (H : Distance hi) (ordered : T (le lo hi)) where
  abbrev between : Float
  between = sub binary64 hi lo

  between_number : T (number between)
  between_number = sub_number binary64 hi lo H.bound L.bound

  between_sign : T (le nought between)
  between_sign = sub_nonneg binary64 lo hi between_number ordered

  between_le : T (le between hi)
  between_le = sub-le binary64 hi lo (fits_widens hi H.held) L.sign between_number

  between_finite : T (finite between)
  between_finite = le-finite between hi between_sign between_le H.bound

  module _ (f : Float) (low : T (le nought f)) (high : T (le f one)) where
    abbrev covered : Float
    covered = mul binary64 between f

    covered_number : T (number covered)
    covered_number = mul-number binary64 between f between_finite (le-finite f one low high tt)

    covered_sign : T (le nought covered)
    covered_sign = mul_nonneg binary64 between f between_sign low covered_number

    covered_le : T (le covered hi)
    covered_le = trans_le covered between hi (mul-le binary64 between f (sub-fits binary64 hi lo) between_sign low high covered_number) between_le

    target_within : Within (2 ^ 129) (add binary64 lo covered)
    target_within =
        add_held binary64 {a = 2 ^ 128} {b = 2 ^ 128} (held_power binary64 129 (lit≤ tt)) (fits_within binary32 lo L.held L.bound)
        (le_within covered_sign covered_le (fits_within binary32 hi H.held H.bound))

    aim : Aim (add binary64 lo covered)
    aim = record { bound = within_finite target_within; held = add-fits binary64 lo covered }

    target_number : T (number (add binary64 lo covered))
    target_number = finite_number (add binary64 lo covered) aim.bound

    target_sign : T (le nought (add binary64 lo covered))
    target_sign = add_nonneg binary64 lo covered L.sign covered_sign

  target_mono : (f g : Float) → T (le nought f) → T (le f g) → T (le g one) → T (le (add binary64 lo (mul binary64 between f)) (add binary64 lo (mul binary64 between g)))
  target_mono f g z h o =
      let y = trans_le f g one h o in
      let w = trans_le nought f g z h in
      add_mono_right binary64 lo (mul binary64 between f) (mul binary64 between g) (target_number f z y) (target_number g w o)
      (mul_mono_right binary64 between f g between_sign (covered_number f z y) (covered_number g w o) h)

  micro_sign : T (le nought micro)
  micro_sign = lt-le nought micro micro_pos

  walk_mono : (line : List Point) → Lengths line (whole_of line) → (f g : Float) → T (le nought f) → T (le f g) → T (le g one) →
      Before (whole_of line) (stretch_at line (whole_of line) micro (add binary64 lo (mul binary64 between f))) (stretch_at line (whole_of line) micro (add binary64 lo (mul binary64 between g)))
  unfolding stretch_at
  walk_mono line granted f g z h o =
      let y = trans_le f g one h o in
      search_mono (whole_of line) (length_from line 0) micro micro_sign (stretches (whole_of line)) (rising line (whole_of line) granted) _ _ (aim f z y) (aim g (trans_le nought f g z h) o)
      (target_mono f g z h o) (stretches (whole_of line)) 0 (omega arith) (omega arith) (unfold length_from in target_sign f z y)

  over_mono : (line : List Point) (way : Way) → Lengths line (whole_of line) → (f g : Float) → T (le f g) →
      NoEarlier (whole_of line) way (spot_over line (record { lo = lo; hi = hi; way = way }) f) (spot_over line (record { lo = lo; hi = hi; way = way }) g)
  unfolding spot_over target_of
  over_mono line way granted f g h =
      sails_unit (whole_of line) way (λ x. stretch_at line (whole_of line) micro (add binary64 lo (mul binary64 between x))) (walk_mono line granted) (clamp01_of f) (clamp01_of g)
      (clamp_low f (le-number_left f g h)) (clamp_mono f g h) (clamp_high g (le-number_right f g h))

-- ---- the span of two distances, either way round

abbrev Goes : List Point → Option Span → Type 0
Goes line s = (span : Span) → s ≡ Some span → (f g : Float) → T (le f g) → NoEarlier (whole_of line) span.way (spot_over line span f) (spot_over line span g)

spread_goes : (line : List Point) (lo hi : Float) (way : Way) → Distance lo → Distance hi → T (le lo hi) → Lengths line (whole_of line) → Goes line (spread lo hi way)
unfolding spread
spread_goes line lo hi way L H o granted = go (lt (abs_of (sub binary64 hi lo)) half)
  where
    the : Span
    the = record { lo = lo; hi = hi; way = way }

    moves : (span : Span) → the ≡ span → (f g : Float) → T (le f g) → NoEarlier (whole_of line) span.way (spot_over line span f) (spot_over line span g)
    moves span e f g h = subst (λ (s : Span). NoEarlier (whole_of line) s.way (spot_over line s f) (spot_over line s g)) e (over_mono lo hi L H o line way granted f g h)

    go : (b : Bool) → Goes line (cond b None (Some the))
    go true span e f g h = absurd (true≢false (cc))
    go false span e f g h = moves span (cc) f g h

pub never_earlier_by_distance : (line : List Point) (d₀ d₁ : Float) → Distance d₀ → Distance d₁ → Lengths line (whole_of line) → Goes line (span_of d₀ d₁)
unfolding span_of
never_earlier_by_distance line d₀ d₁ D E granted =
    go (le d₀ d₁) (λ h. spread_goes line d₀ d₁ With D E h granted)
    (λ h. spread_goes line d₁ d₀ Against E D (lt-le d₁ d₀ (not_le-lt d₀ d₁ (finite_number d₀ D.bound) (finite_number d₁ E.bound) h)) granted)
  where
    go : (b : Bool) → (T b → Goes line (spread d₀ d₁ With)) → (T (not b) → Goes line (spread d₁ d₀ Against)) → Goes line (cond b (spread d₀ d₁ With) (spread d₁ d₀ Against))
    go true p q = p tt
    go false p q = q tt

-- ---- a calibrated distance is an f32

narrow_held : (x : Float) → T (fits binary32 (narrow_of x))
unfolding narrow_of fits
narrow_held nan = tt
narrow_held (inf s) = tt
narrow_held (fin s m e) = round-fits binary32 s (m * up e) (down e)

pub feed_held : (a b d : Float) → T (fits binary32 (feed_metres a b d))
unfolding feed_metres
feed_held a b d = narrow_held (add binary64 a (mul binary64 b d))
