-- What is left of a bearing past a whole turn, with no remainder to compute. Of a float above 0 and below 360 the remainder by 360 is itself; of one from 360 on and below 720
-- it is the difference, since the two round one fraction. A bearing plus 360 is NaN or such a float, since no arc tangent is outside -4 to 4. Assumes nothing.
use mathlib.Core.Path.{◌≡◌, refl, sym, ap, ◌∙◌}
use mathlib.Core.Logic.{◌⊎◌, inl, inr}
use Prim.Native.Nat.{ℕ, ◌+◌, ◌-◌, ◌*◌, ◌%◌, ◌≤◌, ◌<◌}
use native.Mathlib.Nat.{mul-one, mod-eq_of_lt, mod-eq-sub-mod}
use native.Mathlib.Omega.{arith}
use mathlib.Core.Bool.{Bool, true, false, not, false≢true}
use lib.IntN.{ℤ, pos}
use lib.Dec.{T, ltb→lt, nltb→le, lit≤}
use lib.Ieee.{Float, nan, fin, binary64, up, down, round, of_int, of_bits, neg, add, sub, mul, div, rem, lt, fits, sum}
use lib.Ieee.Fits.{add-fits}
use Rattle.floats.proofs.Order.{nought, number, Above, some, unbounded, above, lt_of_lt-le, lt_of_le-lt}
use Rattle.floats.proofs.Own.{round_own}
use Rattle.floats.proofs.Sums.{add-number, add_mono}
use Rattle.floats.proofs.Within.{Within, within_finite, within_mul, within→le, within→ge}
use Rattle.maths.specs.Series.{whole}
use Rattle.maths.specs.Trig.{pi, degrees_of}
use Rattle.arcs.specs.Arcs.{atan2_of}
use Rattle.arcs.proofs.Bounds.{Bounded}
use Rattle.arcs.proofs.Close.{atan2_close}

-- ---- 360 and 720 as they are written
abbrev turn : Float
turn = fin false 45 (pos 3)

abbrev turns : Float
turns = fin false 45 (pos 4)

-- ---- the remainder of what is from the divisor on and below twice that
once : (a b : ℕ) → b ≤ a → a < b + b → a % b ≡ a - b
once a b h k = mod-eq-sub-mod h ∙ mod-eq_of_lt (omega arith)

-- ---- a test's answer as a fact
yes : (b : Bool) → b ≡ true → T b
yes true h = tt
yes false h = absurd (false≢true h)

fails : (b : Bool) → b ≡ false → T (not b)
fails true h = absurd (false≢true (sym h))
fails false h = tt

-- ---- above zero and below a turn
abbrev size : ℕ → ℤ → ℕ
size m e = m * up e * 1

abbrev unit : ℤ → ℕ
unit e = 360 * down e

own_rem : (m : ℕ) (e : ℤ) → T (fits binary64 (fin false m e)) → lt (fin false m e) turn ≡ true → rem binary64 (fin false m e) turn ≡ fin false m e
unfolding rem lt
own_rem m e F h =
    let l : size m e < unit e = ltb→lt (size m e) (unit e) (yes _ h) in
    ap (λ (z : ℕ). round binary64 false z (down e * 1)) (mod-eq_of_lt l ∙ mul-one (m * up e))
    ∙ ap (λ (z : ℕ). round binary64 false (m * up e) z) (mul-one (down e))
    ∙ round_own binary64 false m e F

-- ---- from a turn on
less_rem : (m : ℕ) (e : ℤ) → lt (fin false m e) turn ≡ false → T (lt (fin false m e) turns) → sub binary64 (fin false m e) turn ≡ rem binary64 (fin false m e) turn
unfolding rem sub add neg sum lt
less_rem m e h k =
    let l : size m e < 720 * down e = ltb→lt (size m e) (720 * down e) k in
    let g : unit e ≤ size m e = nltb→le (size m e) (unit e) (fails _ h) in
    rw h (ap (λ (z : ℕ). round binary64 false z (down e * 1)) (sym (once (size m e) (unit e) g (omega arith))))

-- ---- NaN, or above 0 and below two turns
abbrev pub Bearing : Float → Type 0
Bearing x = (x ≡ nan) ⊎ (T (lt nought x) × T (lt x (whole 720)))

below_at : {x : Float} → Above x → T (fits binary64 x) → lt x (whole 360) ≡ true → x ≡ rem binary64 x (whole 360)
unfolding of_int
below_at (some m e p) F h = sym (own_rem m e F h)
below_at unbounded F h = unfold lt in absurd (false≢true h)

pub below_turn : (x : Float) → T (fits binary64 x) → Bearing x → lt x (whole 360) ≡ true → x ≡ rem binary64 x (whole 360)
below_turn x F (inl e) h = rw e (unfold rem in refl)
below_turn x F (inr b) h = below_at (above x b.0) F h

past_at : {x : Float} → Above x → lt x (whole 360) ≡ false → T (lt x (whole 720)) → sub binary64 x (whole 360) ≡ rem binary64 x (whole 360)
unfolding of_int
past_at (some m e p) h k = less_rem m e h k
past_at unbounded h k = unfold lt in absurd k

pub past_turn : (x : Float) → Bearing x → lt x (whole 360) ≡ false → sub binary64 x (whole 360) ≡ rem binary64 x (whole 360)
past_turn x (inl e) h = rw e (unfold rem sub add in refl)
past_turn x (inr b) h = past_at (above x b.0) h b.1

-- ---- a bearing plus 360 is one of them
module _ (a : Float) (w : Within 4 a) where
  abbrev theta : Float
  theta = degrees_of a

  per : Within 58 (div binary64 (whole 180) pi)
  unfolding of_bits of_int div
  per = record { is_finite = tt; small = lit≤ tt }

  theta_within : Within 232 theta
  unfolding degrees_of
  theta_within = within_mul binary64 {a = 4} {b = 58} (lit≤ tt) w per

  number_sum : T (number (add binary64 theta (whole 360)))
  number_sum = add-number binary64 theta (whole 360) (within_finite theta_within) (unfold of_int in tt)

  low : T (lt nought (add binary64 theta (whole 360)))
  low =
      lt_of_lt-le nought (add binary64 (neg (whole 232)) (whole 360)) (add binary64 theta (whole 360)) (unfold of_int neg add lt in tt)
      (add_mono binary64 (neg (whole 232)) theta (whole 360) (unfold of_int neg add in tt) number_sum (within→ge binary64 (lit≤ tt) theta_within))

  high : T (lt (add binary64 theta (whole 360)) (whole 720))
  high =
      lt_of_le-lt (add binary64 theta (whole 360)) (add binary64 (whole 232) (whole 360)) (whole 720)
      (add_mono binary64 theta (whole 232) (whole 360) number_sum (unfold of_int add in tt) (within→le binary64 (lit≤ tt) theta_within))
      (unfold of_int add lt in tt)

bearing_at : (a : Float) → Bounded 4 a → Bearing (add binary64 (degrees_of a) (whole 360))
bearing_at a (inl e) = inl (rw e (unfold degrees_of mul add in refl))
bearing_at a (inr w) = inr (low a w, high a w)

-- ---- so the remainder of such a sum is the sum, or what it has past 360
module _ (d y x : Float) (e : d ≡ degrees_of (atan2_of y x)) where
  abbrev sum_of : Float
  sum_of = add binary64 d (whole 360)

  abbrev whole_of : Float
  whole_of = add binary64 (degrees_of (atan2_of y x)) (whole 360)

  is_bearing : Bearing sum_of
  is_bearing = rw e (bearing_at (atan2_of y x) (atan2_close y x))

  pub below_is : lt sum_of (whole 360) ≡ true → sum_of ≡ rem binary64 whole_of (whole 360)
  below_is h = below_turn sum_of (add-fits binary64 d (whole 360)) is_bearing h ∙ ap (λ (z : Float). rem binary64 (add binary64 z (whole 360)) (whole 360)) e

  pub past_is : lt sum_of (whole 360) ≡ false → sub binary64 sum_of (whole 360) ≡ rem binary64 whole_of (whole 360)
  past_is h = past_turn sum_of is_bearing h ∙ ap (λ (z : Float). rem binary64 (add binary64 z (whole 360)) (whole 360)) e
