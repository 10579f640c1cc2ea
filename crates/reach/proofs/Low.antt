-- A way is no shorter than `low_of` says: of a sine of an eighth or less, no step of the arc sine's stand-in makes less of it than `low_of` has there. Assumes nothing.
use Prim.Native.Nat.{ℕ, suc}
use mathlib.Core.Path.{◌≡◌, refl}
use mathlib.Core.Bool.{Bool, true, false, ◌&&◌, ◌||◌}
use lib.IntN.{pos, negsuc}
use lib.Dec.{T, lit≤}
use lib.Ieee.{Float, inf, fin, binary64, of_int, of_bits, neg, add, sub, mul, div, lt, eq, ne, le}
use lib.Ieee.Scale.{finite}
use Rattle.ieee.specs.Number.{abs_of}
use Rattle.roots.specs.Root.{root_of}
use Rattle.floats.proofs.Signed.{neg-le}
use Rattle.floats.proofs.Order.{nought, one, number, finite_number, refl_le, trans_le, lt-le, lt_of_lt-le, lt_not_le, le-finite, zeros_le, le_antisym, NonNeg, clear, minus, endless, nonneg}
use Rattle.floats.proofs.Own.{one_fits}
use Rattle.floats.proofs.Sums.{add-number, add_mono, add_mono_right, add_up, sub_number, sub_anti, one_less_le}
use Rattle.floats.proofs.Products.{mul-number, mul_mono, mul_mono_right, mul_nonneg, square_nonneg, div-number, div_mono, div_nonneg}
use Rattle.floats.proofs.Signs.{neg-mul}
use Rattle.floats.proofs.Within.{Within, within_finite, within_mul, within_mul_unit, within→ge}
use Rattle.roots.proofs.Roots.{root_mono, root_number, root_nonneg, root_one}
use Rattle.maths.specs.Series.{whole, on_from, horner, atan_c}
use Rattle.arcs.specs.Arcs.{halve_of, four_times, atan_of, angle_of, turned_of, atan2_of, asin_of}
use Rattle.arcs.proofs.Bounds.{InUnit, unit_within, on_within, coefficient_within, atan_within}
use Rattle.sphere_lengths.specs.Length.{radius, way_of}
use Rattle.reach.specs.Reach.{divisor, series, low_of, nearby}
use Rattle.arcs.proofs.Quotients.{div_falls}

-- ---- 1 / 2 ^ k, and two
abbrev part : ℕ → Float
part k = fin false 1 (negsuc k)

abbrev half : Float
half = part 0

abbrev quarter : Float
quarter = part 1

abbrev eighth : Float
eighth = part 2

abbrev sixteenth : Float
sixteenth = part 3

abbrev two : Float
two = fin false 2 (pos 0)

-- ---- a number from zero to h
record UpTo (h x : Float) : Type 0 where
  low : T (le nought x)
  high : T (le x h)

module _ {h x : Float} (H : T (finite h)) (u : UpTo h x) where
  bounded : T (finite x)
  bounded = le-finite x h u.low u.high H

  squared : (s : Float) → T (le (mul binary64 h h) s) → UpTo s (mul binary64 x x)
  squared s k = record {
    low = square_nonneg binary64 x (finite_number x bounded);
    high =
        let z : T (le nought h) = trans_le nought x h u.low u.high in
        let a = mul_mono binary64 x h x u.low (mul-number binary64 x x bounded bounded) (mul-number binary64 h x H bounded) u.high in
        let b = mul_mono_right binary64 h x h z (mul-number binary64 h x H bounded) (mul-number binary64 h h H H) u.high in
        trans_le (mul binary64 x x) (mul binary64 h x) s a (trans_le (mul binary64 h x) (mul binary64 h h) s b k);
  }

-- ---- a halving divides by two at least, and by `divisor` at most
module _ (t : Float) (u : UpTo quarter t) where
  abbrev under : Float
  under = add binary64 one (mul binary64 t t)

  square_up : UpTo sixteenth (mul binary64 t t)
  square_up = squared tt u sixteenth (unfold mul le lt eq in tt)

  under_number : T (number under)
  under_number = add-number binary64 one (mul binary64 t t) tt (bounded tt square_up)

  one_under : T (le one under)
  one_under = add_up binary64 one (mul binary64 t t) (one_fits binary64) square_up.low under_number

  under_up : T (le under (add binary64 one sixteenth))
  under_up = add_mono_right binary64 one (mul binary64 t t) sixteenth under_number (unfold add in tt) square_up.high

  root_is : T (number (root_of under))
  root_is = root_number under (trans_le nought one under (unfold le lt eq in tt) one_under)

  one_root : T (le one (root_of under))
  one_root = rw root_one at (root_mono one under one_under (unfold root_of in tt))

  root_up : T (le (root_of under) (fin false 9 (negsuc 2)))
  root_up =
      trans_le (root_of under) (root_of (add binary64 one sixteenth)) (fin false 9 (negsuc 2))
      (root_mono under (add binary64 one sixteenth) under_up root_is)
      (unfold add root_of le lt eq in tt)

  root_finite : T (finite (root_of under))
  root_finite = le-finite (root_of under) (fin false 9 (negsuc 2)) (trans_le nought one (root_of under) (unfold le lt eq in tt) one_root) root_up tt

  abbrev over : Float
  over = add binary64 one (root_of under)

  over_number : T (number over)
  over_number = add-number binary64 one (root_of under) tt root_finite

  two_over : T (le two over)
  two_over =
      trans_le two (add binary64 one one) over (unfold add le lt eq in tt)
      (add_mono_right binary64 one one (root_of under) (unfold add in tt) over_number one_root)

  over_up : T (le over divisor)
  unfolding of_bits
  over_up =
      trans_le over (add binary64 one (fin false 9 (negsuc 2))) divisor
      (add_mono_right binary64 one (root_of under) (fin false 9 (negsuc 2)) over_number (unfold add in tt) root_up)
      (unfold add le lt eq in tt)

  over_pos : T (lt nought over)
  over_pos = lt_of_lt-le nought two over (unfold lt in tt) two_over

  over_finite : T (finite over)
  unfolding of_bits
  over_finite = le-finite over divisor (lt-le nought over over_pos) over_up tt

  halve_low : T (le (div binary64 t divisor) (halve_of t))
  unfolding halve_of of_bits
  halve_low = div_falls binary64 t over divisor (bounded tt u) u.low over_pos over_up tt

  halve_up : (h : Float) → T (finite h) → T (le t h) → UpTo (div binary64 h two) (halve_of t)
  unfolding halve_of
  halve_up h H k = record {
    low = div_nonneg binary64 t over u.low over_pos (div-number binary64 t over (bounded tt u) over_pos);
    high =
        let p : T (lt nought two) = unfold lt in tt in
        trans_le (div binary64 t over) (div binary64 t two) (div binary64 h two) (div_falls binary64 t two over (bounded tt u) u.low p two_over over_finite)
        (div_mono binary64 t h two p (div-number binary64 t two (bounded tt u) p) (div-number binary64 h two H p) k);
  }

up_to_more : {h k x : Float} → T (le h k) → UpTo h x → UpTo k x
up_to_more {h} {k} {x} l u = record { low = u.low; high = trans_le x h k u.high l }

-- ---- the series is `series` at least
module _ (z : Float) (u : UpTo (part 7) z) where
  in_unit : InUnit z
  in_unit = record { low = u.low; high = trans_le z (part 7) one u.high (unfold le lt eq in tt) }

  abbrev rest : Float
  rest = on_from (λ (j : ℕ). atan_c (suc j)) z 10 (atan_c 11)

  rest_within : Within 11 rest
  rest_within = on_within (λ (j : ℕ). atan_c (suc j)) (λ (j : ℕ). coefficient_within (suc j)) z in_unit 10 (lit≤ tt) (coefficient_within 11)

  rest_low : T (le (neg (mul binary64 (whole 11) (part 7))) (mul binary64 rest z))
  unfolding of_int
  rest_low =
      let a : T (le (neg (whole 11)) rest) = within→ge binary64 (lit≤ tt) rest_within in
      let b = mul_mono binary64 (neg (whole 11)) rest z u.low (mul-number binary64 (neg (whole 11)) z (unfold neg in tt) (bounded tt u)) (mul-number binary64 rest z (within_finite rest_within) (bounded tt u)) a in
      let c = mul_mono_right binary64 (whole 11) z (part 7) (unfold le lt eq in tt) (mul-number binary64 (whole 11) z tt (bounded tt u)) (mul-number binary64 (whole 11) (part 7) tt tt) u.high in
      trans_le (neg (mul binary64 (whole 11) (part 7))) (neg (mul binary64 (whole 11) z)) (mul binary64 rest z) (neg-le (mul binary64 (whole 11) z) (mul binary64 (whole 11) (part 7)) c) (rw (neg-mul binary64 (whole 11) z) at b)

  series_low : T (le series (horner atan_c z 11))
  unfolding horner on_from of_bits of_int
  series_low =
      let m = mul binary64 rest z in
      let l = neg (mul binary64 (whole 11) (part 7)) in
      let f : T (finite m) = within_finite (rest_times) in
      trans_le series (add binary64 l (atan_c 0)) (add binary64 m (atan_c 0)) (unfold neg mul add atan_c div le lt eq in tt)
      (add_mono binary64 l m (atan_c 0) (unfold neg mul add atan_c div in tt) (add-number binary64 m (atan_c 0) f (within_finite (coefficient_within 0))) rest_low)
    where
      rest_times : Within 11 (mul binary64 rest z)
      rest_times = within_mul_unit binary64 z (lit≤ tt) rest_within in_unit.low in_unit.high

-- ---- the arc tangent of a quarter or less
abbrev low_tangent : Float → Float
low_tangent t = div binary64 (div binary64 t divisor) divisor

divided : (x y : Float) → T (finite x) → T (finite y) → T (le x y) → T (le (div binary64 x divisor) (div binary64 y divisor))
unfolding of_bits
divided x y p q h = let z : T (lt nought divisor) = unfold lt in tt in div_mono binary64 x y divisor z (div-number binary64 x divisor p z) (div-number binary64 y divisor q z) h

module _ (t : Float) (u : UpTo quarter t) where
  once : UpTo eighth (halve_of t)
  once = up_to_more {h = div binary64 quarter two} (unfold div le lt eq in tt) (halve_up t u quarter tt u.high)

  once_in : UpTo quarter (halve_of t)
  once_in = up_to_more {h = eighth} (unfold le lt eq in tt) once

  twice : UpTo sixteenth (halve_of (halve_of t))
  twice = up_to_more {h = div binary64 eighth two} (unfold div le lt eq in tt) (halve_up (halve_of t) once_in eighth tt once.high)

  twice_low : T (le (low_tangent t) (halve_of (halve_of t)))
  unfolding of_bits
  twice_low =
      let z : T (lt nought divisor) = unfold lt in tt in
      let d : T (finite (div binary64 t divisor)) = le-finite (div binary64 t divisor) (halve_of t) (div_nonneg binary64 t divisor u.low z (div-number binary64 t divisor (bounded tt u) z)) (halve_low t u) (bounded tt once) in
      trans_le (low_tangent t) (div binary64 (halve_of t) divisor) (halve_of (halve_of t))
      (divided (div binary64 t divisor) (halve_of t) d (bounded tt once) (halve_low t u))
      (halve_low (halve_of t) once_in)

  low_nonneg : T (le nought (low_tangent t))
  unfolding of_bits
  low_nonneg =
      let z : T (lt nought divisor) = unfold lt in tt in
      let a = div_nonneg binary64 t divisor u.low z (div-number binary64 t divisor (bounded tt u) z) in
      let d : T (finite (div binary64 t divisor)) = le-finite (div binary64 t divisor) (halve_of t) a (halve_low t u) (bounded tt once) in
      div_nonneg binary64 (div binary64 t divisor) divisor a z (div-number binary64 (div binary64 t divisor) divisor d z)

  low_finite : T (finite (low_tangent t))
  low_finite = le-finite (low_tangent t) (halve_of (halve_of t)) low_nonneg twice_low (bounded tt twice)

  abbrev sum : Float
  sum = horner atan_c (mul binary64 (halve_of (halve_of t)) (halve_of (halve_of t))) 11

  squared_up : UpTo (part 7) (mul binary64 (halve_of (halve_of t)) (halve_of (halve_of t)))
  squared_up = squared tt twice (part 7) (unfold mul le lt eq in tt)

  sum_low : T (le series sum)
  sum_low = series_low (mul binary64 (halve_of (halve_of t)) (halve_of (halve_of t))) squared_up

  sum_within : Within 12 sum
  unfolding horner
  sum_within =
      let z = mul binary64 (halve_of (halve_of t)) (halve_of (halve_of t)) in
      on_within atan_c coefficient_within z (in_unit z squared_up) 11 (lit≤ tt) (coefficient_within 11)

  product : T (finite (mul binary64 (halve_of (halve_of t)) sum))
  product =
      let l : T (le sixteenth one) = unfold le lt eq in tt in
      let i : InUnit (halve_of (halve_of t)) = record { low = twice.low; high = trans_le (halve_of (halve_of t)) sixteenth one twice.high l } in
      within_finite (within_mul binary64 {a = 1} {b = 12} (lit≤ tt) (unit_within i) sum_within)

  times_low : T (le (mul binary64 (low_tangent t) series) (mul binary64 (halve_of (halve_of t)) sum))
  unfolding of_bits
  times_low =
      let v = halve_of (halve_of t) in
      let z : T (le nought series) = unfold le lt eq in tt in
      trans_le (mul binary64 (low_tangent t) series) (mul binary64 v series) (mul binary64 v sum)
      (mul_mono binary64 (low_tangent t) v series z (mul-number binary64 (low_tangent t) series low_finite tt) (mul-number binary64 v series (bounded tt twice) tt) twice_low)
      (mul_mono_right binary64 v series sum twice.low (mul-number binary64 v series (bounded tt twice) tt) (mul-number binary64 v sum (bounded tt twice) (within_finite sum_within)) sum_low)

  product_nonneg : T (le nought (mul binary64 (low_tangent t) series))
  unfolding of_bits
  product_nonneg = mul_nonneg binary64 (low_tangent t) series low_nonneg (unfold le lt eq in tt) (mul-number binary64 (low_tangent t) series low_finite tt)

  low_product : T (finite (mul binary64 (low_tangent t) series))
  low_product = le-finite (mul binary64 (low_tangent t) series) (mul binary64 (halve_of (halve_of t)) sum) product_nonneg times_low product

  -- four times that
  atan_low : T (le (mul binary64 (whole 4) (mul binary64 (low_tangent t) series)) (atan_of t))
  unfolding atan_of four_times of_bits of_int
  atan_low =
      let v = halve_of (halve_of t) in
      let a = mul binary64 (low_tangent t) series in
      let b = mul binary64 v sum in
      mul_mono_right binary64 (whole 4) a b (unfold le lt eq in tt) (mul-number binary64 (whole 4) a tt low_product) (mul-number binary64 (whole 4) b tt product) times_low

-- ---- the arc sine of an eighth or less
-- the size of what is at least zero: itself, but for the sign of zero
size_same : {s : Float} → NonNeg s → T (le s (abs_of s)) × T (le (abs_of s) s)
unfolding abs_of
size_same (clear m e) = (refl_le (fin false m e) tt, refl_le (fin false m e) tt)
size_same (minus e) = (zeros_le true false e e, zeros_le false true e e)
size_same endless = (refl_le (inf false) tt, refl_le (inf false) tt)

no : (b : Bool) → (T b → ⊥) → b ≡ false
no true h = absurd (h tt)
no false h = refl

both_no : (a b : Bool) → b ≡ false → (a && b) ≡ false
both_no true b e = e
both_no false b e = refl

yes : (b : Bool) → T b → b ≡ true
yes true h = refl
yes false h = absurd h

not_other : (x : Float) → T (number x) → ne x x ≡ false
unfolding ne
not_other x h = rw (yes (eq x x) (le_antisym x x (refl_le x h) (refl_le x h)))

not_zero : (x : Float) → T (le half x) → eq x nought ≡ false
not_zero x h = no (eq x nought) (λ e. lt_not_le nought half (unfold lt in tt) (trans_le half x nought h (eq-le x nought e)))
  where
    or_right : (a b : Bool) → T b → T (a || b)
    or_right true b h = tt
    or_right false b h = h

    eq-le : (x y : Float) → T (eq x y) → T (le x y)
    eq-le x y e = unfold le in or_right (lt x y) (eq x y) e

module _ (s : Float) (u : UpTo eighth s) where
  abbrev cosine : Float
  cosine = root_of (sub binary64 one (mul binary64 s s))

  sine_square : UpTo (part 5) (mul binary64 s s)
  sine_square = squared tt u (part 5) (unfold mul le lt eq in tt)

  less_number : T (number (sub binary64 one (mul binary64 s s)))
  less_number = sub_number binary64 one (mul binary64 s s) tt (bounded tt sine_square)

  quarter_less : T (le quarter (sub binary64 one (mul binary64 s s)))
  quarter_less =
      trans_le quarter (sub binary64 one (part 5)) (sub binary64 one (mul binary64 s s)) (unfold sub le lt eq in tt)
      (sub_anti binary64 one (mul binary64 s s) (part 5) less_number (unfold sub in tt) sine_square.high)

  cosine_number : T (number cosine)
  cosine_number = root_number (sub binary64 one (mul binary64 s s)) (trans_le nought quarter (sub binary64 one (mul binary64 s s)) (unfold le lt eq in tt) quarter_less)

  half_cosine : T (le half cosine)
  half_cosine =
      trans_le half (root_of quarter) cosine (unfold root_of le lt eq in tt)
      (root_mono quarter (sub binary64 one (mul binary64 s s)) quarter_less (unfold root_of in tt))

  cosine_one : T (le cosine one)
  cosine_one = rw root_one at (root_mono (sub binary64 one (mul binary64 s s)) one (one_less_le binary64 (mul binary64 s s) sine_square.low) cosine_number)

  cosine_nonneg : T (le nought cosine)
  cosine_nonneg = trans_le nought half cosine (unfold le lt eq in tt) half_cosine

  abbrev y : Float
  y = abs_of s

  abbrev x : Float
  x = abs_of cosine

  y_up : UpTo eighth y
  y_up = let e = size_same (nonneg s u.low) in record { low = trans_le nought s y u.low e.0; high = trans_le y s eighth e.1 u.high }

  half_x : T (le half x)
  half_x = trans_le half cosine x half_cosine (size_same (nonneg cosine cosine_nonneg)).0

  x_one : T (le x one)
  x_one = trans_le x cosine one (size_same (nonneg cosine cosine_nonneg)).1 cosine_one

  x_pos : T (lt nought x)
  x_pos = lt_of_lt-le nought half x (unfold lt in tt) half_x

  x_finite : T (finite x)
  x_finite = le-finite x one (lt-le nought x x_pos) x_one tt

  abbrev tangent : Float
  tangent = div binary64 y x

  tangent_up : UpTo quarter tangent
  tangent_up =
      let p : T (lt nought half) = unfold lt in tt in
      record {
        low = div_nonneg binary64 y x y_up.low x_pos (div-number binary64 y x (bounded tt y_up) x_pos);
        high =
            trans_le tangent (div binary64 y half) quarter (div_falls binary64 y half x (bounded tt y_up) y_up.low p half_x x_finite)
            (trans_le (div binary64 y half) (div binary64 eighth half) quarter
            (div_mono binary64 y eighth half p (div-number binary64 y half (bounded tt y_up) p) (div-number binary64 eighth half tt p) y_up.high)
            (unfold div le lt eq in tt));
      }

  tangent_low : T (le (div binary64 s one) tangent)
  tangent_low =
      let p : T (lt nought one) = unfold lt in tt in
      trans_le (div binary64 s one) (div binary64 y one) tangent
      (div_mono binary64 s y one p (div-number binary64 s one (bounded tt u) p) (div-number binary64 y one (bounded tt y_up) p) (size_same (nonneg s u.low)).0)
      (div_falls binary64 y x one (bounded tt y_up) y_up.low x_pos x_one tt)

  -- it is the arc tangent of that
  asin_is : asin_of s ≡ atan_of tangent
  unfolding asin_of atan2_of turned_of angle_of
  asin_is =
      rw (not_other s (finite_number s (bounded tt u)), not_other cosine cosine_number, both_no (eq s nought) (eq cosine nought) (not_zero cosine half_cosine), no (lt cosine nought) (λ h. lt_not_le cosine nought h cosine_nonneg), no (lt s nought) (λ h. lt_not_le s nought h u.low), no (lt x y) (λ h. lt_not_le x y h (trans_le y eighth x y_up.high (trans_le eighth half x (unfold le lt eq in tt) half_x))))

-- ---- four times the lowest tangent grows with it
abbrev four_low : Float → Float
four_low t = mul binary64 (whole 4) (mul binary64 (low_tangent t) series)

four_grows : (p q : Float) → UpTo quarter p → UpTo quarter q → T (le p q) → T (le (four_low p) (four_low q))
unfolding of_bits of_int
four_grows p q u v h =
    let z : T (lt nought divisor) = unfold lt in tt in
    let P = div-number binary64 p divisor (bounded tt u) z in
    let Q = div-number binary64 q divisor (bounded tt v) z in
    let a = div_mono binary64 p q divisor z P Q h in
    let b = div_mono binary64 (div binary64 p divisor) (div binary64 q divisor) divisor z (finite_number (low_tangent p) (low_finite p u)) (finite_number (low_tangent q) (low_finite q v)) a in
    let c = mul_mono binary64 (low_tangent p) (low_tangent q) series (unfold le lt eq in tt) (finite_number (mul binary64 (low_tangent p) series) (low_product p u)) (finite_number (mul binary64 (low_tangent q) series) (low_product q v)) b in
    mul_mono_right binary64 (whole 4) (mul binary64 (low_tangent p) series) (mul binary64 (low_tangent q) series) (unfold le lt eq in tt)
    (mul-number binary64 (whole 4) (mul binary64 (low_tangent p) series) tt (low_product p u)) (mul-number binary64 (whole 4) (mul binary64 (low_tangent q) series) tt (low_product q v)) c

atan_finite : (t : Float) → UpTo quarter t → T (finite (atan_of t))
atan_finite t u =
    let l : T (le quarter one) = unfold le lt eq in tt in
    let i : InUnit t = record { low = u.low; high = trans_le t quarter one u.high l } in within_finite (atan_within i)

four_finite : (t : Float) → UpTo quarter t → T (finite (four_low t))
unfolding of_int
four_finite t u =
    le-finite (four_low t) (atan_of t)
    (mul_nonneg binary64 (whole 4) (mul binary64 (low_tangent t) series) (unfold le lt eq in tt) (product_nonneg t u) (mul-number binary64 (whole 4) (mul binary64 (low_tangent t) series) tt (low_product t u)))
    (atan_low t u)
    (atan_finite t u)

-- ---- the way
abbrev diameter : Float
diameter = mul binary64 (whole 2) radius

diameter_nonneg : T (le nought diameter)
diameter_nonneg = unfold of_int mul le lt eq in tt

diameter-finite : T (finite diameter)
diameter-finite = unfold of_int mul in tt

-- the sine itself, which is no more than its tangent
module _ (s : Float) (u : UpTo eighth s) where
  sine_up : UpTo quarter (div binary64 s one)
  sine_up =
      let p : T (lt nought one) = unfold lt in tt in
      record {
        low = div_nonneg binary64 s one u.low p (div-number binary64 s one (bounded tt u) p);
        high = trans_le (div binary64 s one) (tangent s u) quarter (tangent_low s u) (tangent_up s u).high;
      }

  -- a way is no shorter than `low_of` says
  sine_low : T (le (low_of s) (mul binary64 diameter (asin_of s)))
  unfolding low_of
  sine_low =
      let t = tangent s u in
      let a = trans_le (four_low (div binary64 s one)) (four_low t) (atan_of t) (four_grows (div binary64 s one) t sine_up (tangent_up s u) (tangent_low s u)) (atan_low t (tangent_up s u)) in
      rw (asin_is s u) (mul_mono_right binary64 diameter (four_low (div binary64 s one)) (atan_of t) diameter_nonneg (mul-number binary64 diameter (four_low (div binary64 s one)) diameter-finite (four_finite (div binary64 s one) sine_up)) (mul-number binary64 diameter (atan_of t) diameter-finite (atan_finite t (tangent_up s u))) a)

-- `low_of` grows with the sine
low_grows : (r s : Float) → UpTo eighth r → UpTo eighth s → T (le r s) → T (le (low_of r) (low_of s))
unfolding low_of
low_grows r s u v h =
    let z : T (lt nought one) = unfold lt in tt in
    let p = div binary64 r one in
    let q = div binary64 s one in
    let a = div_mono binary64 r s one z (div-number binary64 r one (bounded tt u) z) (div-number binary64 s one (bounded tt v) z) h in
    mul_mono_right binary64 diameter (four_low p) (four_low q) diameter_nonneg (mul-number binary64 diameter (four_low p) diameter-finite (four_finite p (sine_up r u))) (mul-number binary64 diameter (four_low q) diameter-finite (four_finite q (sine_up s v))) (four_grows p q (sine_up r u) (sine_up s v) a)

-- ---- past a limit whose own way is longer than `most` at least, every way is
root_up_to : (a : Float) → T (le nought a) → T (le a nearby) → UpTo eighth (root_of a)
unfolding of_bits
root_up_to a z h =
    let n = root_number a z in
    record { low = root_nonneg a n; high = trans_le (root_of a) (root_of nearby) eighth (root_mono a nearby h n) (unfold root_of le lt eq in tt) }

pub past : (most limit a : Float) → T (le nought limit) → T (lt most (low_of (root_of limit))) → T (lt limit a) → T (le a nearby) → le (way_of a) most ≡ false
past most limit a z h l k =
    let m = trans_le nought limit a z (lt-le limit a l) in
    let v = root_up_to a m k in
    let u = root_up_to limit z (trans_le limit a nearby (lt-le limit a l) k) in
    let g = low_grows (root_of limit) (root_of a) u v (root_mono limit a (lt-le limit a l) (root_number limit z)) in
    no (le (way_of a) most) (λ e. lt_not_le most (way_of a) (lt_of_lt-le most (low_of (root_of a)) (way_of a) (lt_of_lt-le most (low_of (root_of limit)) (low_of (root_of a)) h g) (sine_low (root_of a) v)) e)
