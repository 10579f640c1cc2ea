-- A bound close enough to tell turns by: whatever floats it is given, `atan2_of` answers NaN or a value within 4, so within a turn.
-- A halving halves a tangent at least: of a tangent from 0 to 1 it is a quarter at most after two. There the series is within 11 / 16 of its first coefficient,
-- which is 1. So the arc tangent is from 0 to 27 / 16, the angle from -1 / 2 to 2, and what is turned round from -4 to 4. Assumes nothing.
use mathlib.Core.Path.{◌≡◌, refl}
use mathlib.Core.Logic.{◌⊎◌, inl, inr}
use Prim.Native.Nat.{ℕ, suc}
use mathlib.Core.Bool.{Bool, true, false, not, cond, ◌&&◌, ◌||◌}
use lib.IntN.{pos, negsuc}
use lib.Dec.{T, lit≤}
use lib.Ieee.{Float, nan, inf, fin, binary64, of_int, of_bits, neg, add, sub, mul, div, lt, eq, ne, le}
use lib.Ieee.Scale.{finite}
use Rattle.ieee.specs.Number.{abs_of}
use Rattle.roots.specs.Root.{root_of}
use Rattle.floats.proofs.Signed.{neg-le}
use Rattle.floats.proofs.Order.{nought, one, number, finite_number, refl_le, trans_le, not_lt-le, lt-le, lt_of_lt-le, le-number_right, le-finite}
use Rattle.floats.proofs.Own.{one_fits}
use Rattle.floats.proofs.Sums.{add-number, add_mono, add_mono_right, add_up, sub_number, sub_anti}
use Rattle.floats.proofs.Products.{mul-number, mul_mono, mul_mono_right, mul_nonneg, div-number, div_mono, div_nonneg}
use Rattle.floats.proofs.Signs.{neg-mul}
use Rattle.floats.proofs.Within.{Within, within_finite, within→ge, within→le, within_mul_unit, between→within}
use Rattle.roots.proofs.Roots.{root_mono, root_number, root_one}
use Rattle.maths.specs.Series.{whole, on_from, horner, atan_c}
use Rattle.maths.specs.Trig.{pi, half_pi}
use Rattle.arcs.specs.Arcs.{halve_of, four_times, atan_of, angle_of, turned_of, atan2_of}
use Rattle.arcs.proofs.Bounds.{InUnit, InUnitOrNan, Bounded, ratio, abs_nonneg, on_within, coefficient_within}
use Rattle.arcs.proofs.Quotients.{div_falls}

-- ---- from one value to another
record Between (lo hi x : Float) : Type 0 where
  low : T (le lo x)
  high : T (le x hi)

between_finite : (lo hi x : Float) → T (finite lo) → T (finite hi) → T (le lo x) → T (le x hi) → T (finite x)
unfolding le lt eq
between_finite nan hi x p q h k = absurd p
between_finite (inf s) hi x p q h k = absurd p
between_finite (fin s m e) nan x p q h k = absurd q
between_finite (fin s m e) (inf t) x p q h k = absurd q
between_finite (fin s m e) (fin t n d) nan p q h k = absurd h
between_finite (fin s m e) (fin t n d) (inf true) p q h k = absurd h
between_finite (fin s m e) (fin t n d) (inf false) p q h k = absurd k
between_finite (fin s m e) (fin t n d) (fin u o g) p q h k = tt

is_finite : {lo hi x : Float} → T (finite lo) → T (finite hi) → Between lo hi x → T (finite x)
is_finite {lo} {hi} {x} p q b = between_finite lo hi x p q b.low b.high

wider : (lo hi : Float) {lo' hi' x : Float} → T (le lo' lo) → T (le hi hi') → Between lo hi x → Between lo' hi' x
wider lo hi {lo'} {hi'} {x} p q b = record { low = trans_le lo' lo x p b.low; high = trans_le x hi hi' b.high q }

-- ---- operations on it
module _ (a b x y : Float) (A : T (finite a)) (B : T (finite b)) (u : Between nought a x) (v : Between nought b y) where
  product : Between nought (mul binary64 a b) (mul binary64 x y)
  product =
      let X : T (finite x) = is_finite tt A u in
      let Y : T (finite y) = is_finite tt B v in
      let n = mul-number binary64 a y A Y in
      record {
        low = mul_nonneg binary64 x y u.low v.low (mul-number binary64 x y X Y);
        high =
            trans_le (mul binary64 x y) (mul binary64 a y) (mul binary64 a b)
            (mul_mono binary64 x a y v.low (mul-number binary64 x y X Y) n u.high)
            (mul_mono_right binary64 a y b (trans_le nought x a u.low u.high) n (mul-number binary64 a b A B) v.high);
      }

less_between : (z : Float) {lo hi x : Float} → T (finite z) → T (finite lo) → T (finite hi) → Between lo hi x → Between (sub binary64 z hi) (sub binary64 z lo) (sub binary64 z x)
less_between z {lo} {hi} {x} Z L H b =
    let n = sub_number binary64 z x Z (is_finite L H b) in
    record { low = sub_anti binary64 z x hi n (sub_number binary64 z hi Z H) b.high; high = sub_anti binary64 z lo x (sub_number binary64 z lo Z L) n b.low }

neg_between : {lo hi x : Float} → Between lo hi x → Between (neg hi) (neg lo) (neg x)
neg_between {lo} {hi} {x} b = record { low = neg-le x hi b.high; high = neg-le lo x b.low }

-- ---- the values met
abbrev half : Float
half = fin false 1 (negsuc 0)

abbrev quarter : Float
quarter = fin false 1 (negsuc 1)

abbrev sixteenth : Float
sixteenth = fin false 1 (negsuc 3)

abbrev two : Float
two = fin false 1 (pos 1)

abbrev most : Float
most = fin false 27 (negsuc 3)

-- ---- a halving divides by two at least
module _ (h t : Float) (H : T (finite h)) (b : T (le h one)) (u : Between nought h t) where
  t_finite : T (finite t)
  t_finite = is_finite tt H u

  abbrev under : Float
  under = add binary64 one (mul binary64 t t)

  square_up : Between nought one (mul binary64 t t)
  square_up =
      let v : Between nought one t = record { low = u.low; high = trans_le t h one u.high b } in
      let p = product one one t t tt tt v v in
      record { low = p.low; high = trans_le (mul binary64 t t) (mul binary64 one one) one p.high (unfold mul le lt eq in tt) }

  square_finite : T (finite (mul binary64 t t))
  square_finite = is_finite tt tt square_up

  one_under : T (le one under)
  one_under = add_up binary64 one (mul binary64 t t) (one_fits binary64) square_up.low (add-number binary64 one (mul binary64 t t) tt square_finite)

  under_up : T (le under two)
  under_up =
      trans_le under (add binary64 one one) two
      (add_mono_right binary64 one (mul binary64 t t) one (add-number binary64 one (mul binary64 t t) tt square_finite) (unfold add in tt) square_up.high)
      (unfold add le lt eq in tt)

  root_is : T (number (root_of under))
  root_is = root_number under (trans_le nought one under (unfold le lt eq in tt) one_under)

  one_root : T (le one (root_of under))
  one_root = rw root_one at (root_mono one under one_under (unfold root_of in tt))

  root_up : T (le (root_of under) two)
  root_up = trans_le (root_of under) (root_of two) two (root_mono under two under_up root_is) (unfold root_of le lt eq in tt)

  root_finite : T (finite (root_of under))
  root_finite = le-finite (root_of under) two (trans_le nought one (root_of under) (unfold le lt eq in tt) one_root) root_up tt

  abbrev over : Float
  over = add binary64 one (root_of under)

  over_number : T (number over)
  over_number = add-number binary64 one (root_of under) tt root_finite

  two_over : T (le two over)
  two_over =
      trans_le two (add binary64 one one) over (unfold add le lt eq in tt)
      (add_mono_right binary64 one one (root_of under) (unfold add in tt) over_number one_root)

  over_up : T (le over (fin false 3 (pos 0)))
  over_up =
      trans_le over (add binary64 one two) (fin false 3 (pos 0))
      (add_mono_right binary64 one (root_of under) two over_number (unfold add in tt) root_up)
      (unfold add le lt eq in tt)

  over_pos : T (lt nought over)
  over_pos = lt_of_lt-le nought two over (unfold lt in tt) two_over

  over_finite : T (finite over)
  over_finite = le-finite over (fin false 3 (pos 0)) (lt-le nought over over_pos) over_up tt

  halved : Between nought (div binary64 h two) (halve_of t)
  unfolding halve_of
  halved =
      let p : T (lt nought two) = unfold lt in tt in
      record {
        low = div_nonneg binary64 t over u.low over_pos (div-number binary64 t over t_finite over_pos);
        high =
            trans_le (div binary64 t over) (div binary64 t two) (div binary64 h two)
            (div_falls binary64 t two over t_finite u.low p two_over over_finite)
            (div_mono binary64 t h two p (div-number binary64 t two t_finite p) (div-number binary64 h two H p) u.high);
      }

-- ---- the series is from 0 to 27 / 16
module _ (z : Float) (u : Between nought sixteenth z) where
  in_unit : InUnit z
  in_unit = record { low = u.low; high = trans_le z sixteenth one u.high (unfold le lt eq in tt) }

  abbrev rest : Float
  rest = on_from (λ (j : ℕ). atan_c (suc j)) z 10 (atan_c 11)

  rest_within : Within 11 rest
  rest_within = on_within (λ (j : ℕ). atan_c (suc j)) (λ (j : ℕ). coefficient_within (suc j)) z in_unit 10 (lit≤ tt) (coefficient_within 11)

  z_finite : T (finite z)
  z_finite = is_finite tt tt u

  rest_finite : T (finite (mul binary64 rest z))
  rest_finite = within_finite (within_mul_unit binary64 z (lit≤ tt) rest_within in_unit.low in_unit.high)

  -- 11 / 16 either way
  abbrev size : Float
  size = mul binary64 (whole 11) sixteenth

  eleven_up : T (le (mul binary64 (whole 11) z) size)
  unfolding of_int
  eleven_up = mul_mono_right binary64 (whole 11) z sixteenth (unfold le lt eq in tt) (mul-number binary64 (whole 11) z tt z_finite) (mul-number binary64 (whole 11) sixteenth tt tt) u.high

  rest_up : T (le (mul binary64 rest z) size)
  unfolding of_int
  rest_up =
      let n = finite_number (mul binary64 rest z) rest_finite in
      trans_le (mul binary64 rest z) (mul binary64 (whole 11) z) size
      (mul_mono binary64 rest (whole 11) z u.low n (mul-number binary64 (whole 11) z tt z_finite) (within→le binary64 (lit≤ tt) rest_within))
      eleven_up

  rest_low : T (le (neg size) (mul binary64 rest z))
  unfolding of_int
  rest_low =
      let n = finite_number (mul binary64 rest z) rest_finite in
      let b = mul_mono binary64 (neg (whole 11)) rest z u.low (mul-number binary64 (neg (whole 11)) z (unfold neg in tt) z_finite) n (within→ge binary64 (lit≤ tt) rest_within) in
      trans_le (neg size) (neg (mul binary64 (whole 11) z)) (mul binary64 rest z)
      (neg-le (mul binary64 (whole 11) z) size eleven_up)
      (rw (neg-mul binary64 (whole 11) z) at b)

  series : Between nought most (horner atan_c z 11)
  unfolding horner on_from of_bits of_int
  series =
      let m = mul binary64 rest z in
      let n = add-number binary64 m (atan_c 0) rest_finite (within_finite (coefficient_within 0)) in
      record {
        low =
            trans_le nought (add binary64 (neg size) (atan_c 0)) (add binary64 m (atan_c 0)) (unfold neg mul add atan_c div le lt eq in tt)
            (add_mono binary64 (neg size) m (atan_c 0) (unfold neg mul add atan_c div in tt) n rest_low);
        high =
            trans_le (add binary64 m (atan_c 0)) (add binary64 size (atan_c 0)) most
            (add_mono binary64 m size (atan_c 0) n (unfold mul add atan_c div in tt) rest_up)
            (unfold mul add atan_c div le lt eq in tt);
      }

-- ---- the arc tangent of 0 to 1
four : Between nought (whole 4) (whole 4)
four = record { low = unfold of_int le lt eq in tt; high = refl_le (whole 4) (unfold of_int in tt) }

four_times_up : (s : Float) → Between nought quarter s → Between nought two (four_times s)
unfolding four_times
four_times_up s u =
    let z = mul binary64 s s in
    let v : Between nought sixteenth z = wider nought (mul binary64 quarter quarter) (unfold le lt eq in tt) (unfold mul le lt eq in tt) (product quarter quarter s s tt tt u u) in
    let p = product quarter most s (horner atan_c z 11) tt tt u (series z v) in
    let q = product (whole 4) (mul binary64 quarter most) (whole 4) (mul binary64 s (horner atan_c z 11)) (unfold of_int in tt) (unfold mul in tt) four p in
    wider nought (mul binary64 (whole 4) (mul binary64 quarter most)) (unfold le lt eq in tt) (unfold of_int mul le lt eq in tt) q

atan_up : {t : Float} → InUnit t → Between nought two (atan_of t)
unfolding atan_of
atan_up {t} i =
    let a : Between nought one t = record { low = i.low; high = i.high } in
    let l : T (le one one) = refl_le one tt in
    let b : Between nought half (halve_of t) = wider nought (div binary64 one two) (unfold le lt eq in tt) (unfold div le lt eq in tt) (halved one t tt l a) in
    let m : T (le half one) = unfold le lt eq in tt in
    let c : Between nought quarter (halve_of (halve_of t)) = wider nought (div binary64 half two) (unfold le lt eq in tt) (unfold div le lt eq in tt) (halved half (halve_of t) tt m b) in
    four_times_up (halve_of (halve_of t)) c

-- ---- the angle for two sizes, and the quarter that it is brought to
abbrev Some : Float → Float → Float → Type 0
Some lo hi x = (x ≡ nan) ⊎ Between lo hi x

some_atan : {t : Float} → InUnitOrNan t → Some nought two (atan_of t)
some_atan (inl e) = inl (rw e atan_nan)
  where
    atan_nan : atan_of nan ≡ nan
    atan_nan = unfold atan_of four_times halve_of of_int mul div in refl
some_atan (inr u) = inr (atan_up u)

some_wider : (lo hi : Float) {lo' hi' x : Float} → T (le lo' lo) → T (le hi hi') → Some lo hi x → Some lo' hi' x
some_wider lo hi p q (inl e) = inl e
some_wider lo hi p q (inr b) = inr (wider lo hi p q b)

some_less : (z : Float) {lo hi x : Float} → T (finite z) → T (finite lo) → T (finite hi) → Some lo hi x → Some (sub binary64 z hi) (sub binary64 z lo) (sub binary64 z x)
some_less z Z L H (inl e) = inl (rw e (from_finite z Z))
  where
    from_finite : (z : Float) → T (finite z) → sub binary64 z nan ≡ nan
    from_finite nan p = absurd p
    from_finite (inf s) p = absurd p
    from_finite (fin s m e) p = unfold sub add neg in refl
some_less z Z L H (inr b) = inr (less_between z Z L H b)

some_neg : {lo hi x : Float} → Some lo hi x → Some (neg hi) (neg lo) (neg x)
some_neg (inl e) = inl (rw e (unfold neg in refl))
some_neg (inr b) = inr (neg_between b)

-- -1 / 2
abbrev least : Float
least = fin true 1 (negsuc 0)

angle_some : (a b : Float) → T (le nought a) → T (le nought b) → Some least two (angle_of a b)
unfolding angle_of
angle_some a b p q = go (lt b a) (λ (h : T (lt b a)). lt-le b a h) (λ (h : T (not (lt b a))). not_lt-le b a (le-number_right nought b q) (le-number_right nought a p) h)
  where
    go : (t : Bool) → (T t → T (le b a)) → (T (not t) → T (le a b)) → Some least two (cond t (sub binary64 half_pi (atan_of (div binary64 b a))) (atan_of (div binary64 a b)))
    go true h k = some_wider (sub binary64 half_pi two) (sub binary64 half_pi nought) (unfold of_bits sub add neg le lt eq in tt) (unfold of_bits sub add neg le lt eq in tt) (some_less half_pi (unfold of_bits in tt) tt tt (some_atan (ratio b a q (h tt))))
    go false h k = some_wider nought two (unfold le lt eq in tt) (unfold le lt eq in tt) (some_atan (ratio a b p (k tt)))

abbrev Turned : Float → Type 0
Turned x = Some (neg (whole 4)) (whole 4) x

turned_some : (y x a : Float) → Some least two a → Turned (turned_of y x a)
unfolding turned_of
turned_some y x a h = outer (lt y nought) (inner (lt x nought))
  where
    inner : (t : Bool) → Some least (whole 4) (cond t (sub binary64 pi a) a)
    inner true = some_wider (sub binary64 pi two) (sub binary64 pi least) (unfold of_bits sub add neg le lt eq in tt) (unfold of_bits of_int sub add neg le lt eq in tt) (some_less pi (unfold of_bits in tt) tt tt h)
    inner false = some_wider least two (unfold le lt eq in tt) (unfold of_int le lt eq in tt) h

    outer : (t : Bool) {b : Float} → Some least (whole 4) b → Turned (cond t (neg b) b)
    outer true k = some_wider (neg (whole 4)) (neg least) (unfold of_int neg le lt eq in tt) (unfold of_int neg le lt eq in tt) (some_neg k)
    outer false k = some_wider least (whole 4) (unfold of_int neg le lt eq in tt) (unfold of_int le lt eq in tt) k

-- ---- for all floats
pub atan2_close : (y x : Float) → Bounded 4 (atan2_of y x)
unfolding atan2_of
atan2_close y x = within (go (ne y y) (ne x x) (eq y nought && eq x nought) (abs_nonneg y) (abs_nonneg x))
  where
    within : {a : Float} → Turned a → Bounded 4 a
    within (inl e) = inl e
    within {a} (inr b) = inr (between→within binary64 4 a (lit≤ tt) b.low b.high)

    zero_or : (t : Bool) {a : Float} → Turned a → Turned (cond t nought a)
    zero_or true h = inr (record { low = unfold of_int neg le lt eq in tt; high = unfold of_int le lt eq in tt })
    zero_or false h = h

    go : (n m t : Bool) → (T (not n) → T (le nought (abs_of y))) → (T (not m) → T (le nought (abs_of x))) → Turned (cond (n || m) nan (cond t nought (turned_of y x (angle_of (abs_of y) (abs_of x)))))
    go true m t p q = inl refl
    go false true t p q = inl refl
    go false false t p q = zero_or t (turned_some y x (angle_of (abs_of y) (abs_of x)) (angle_some (abs_of y) (abs_of x) (p tt) (q tt)))
