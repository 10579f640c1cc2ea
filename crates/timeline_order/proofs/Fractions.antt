-- As the clock goes on, the fraction of a leg does not fall. Strictly between the leg's two moments it is strictly between 0 and 1. Assumes nothing.
use Prim.Native.Nat.{ℕ, ◌-◌, ◌<◌, ◌≤◌, max}
use native.Mathlib.Nat.{le_trans}
use native.Mathlib.Omega.{arith}
use mathlib.Core.Path.{◌≡◌, refl}
use mathlib.Core.Logic.{◌⊎◌, inl, inr, ⊎_elim}
use mathlib.Core.Bool.{Bool, true, false, not, cond}
use lib.Dec.{T, lit≤}
use lib.Ieee.{Float, binary64, of_int, sub, div, lt, le, fits}
use lib.Ieee.Fits.{div-fits, sub-fits, cond-fits}
use Rattle.floats.specs.Number.{nought, one}
use Rattle.floats.proofs.Order.{number, le-number_left, le-number_right, lt_not_le, lt_of_lt-le}
use Rattle.floats.proofs.Signed.{le_or_lt}
use Rattle.floats.proofs.Own.{nought-fits, one_fits}
use Rattle.floats.proofs.Products.{div-number, div_mono, div_self}
use Rattle.floats.proofs.Sums.{sub-number_left, sub_anti}
use Rattle.floats.proofs.Whole.{int_mono, int_pos, int_finite}
use Rattle.ieee.specs.Number.{clamp01_of, max_of}
use Rattle.maths.specs.Series.{whole}
use Rattle.along_order.proofs.Clamp.{clamp_mono, clamp_low, clamp_high}
use Rattle.fractions.specs.Fraction.{leg_fraction, run_over, approach_fraction}
use Rattle.timeline_order.proofs.Quotients.{Inside, inside_quotient, inside_turned, inside_clamped}

-- ---- what fits
clamp_fits : (x : Float) → T (fits binary64 x) → T (fits binary64 (clamp01_of x))
unfolding clamp01_of
clamp_fits x t =
    cond-fits binary64 (lt x nought) nought (cond (lt one x) one x) (nought-fits binary64) (cond-fits binary64 (lt one x) one x (one_fits binary64) t)

pub leg_fraction-fits : (clock dep arr : ℕ) → T (fits binary64 (leg_fraction clock dep arr))
unfolding leg_fraction
leg_fraction-fits clock dep arr = clamp_fits _ (div-fits binary64 (whole (clock - dep)) (whole (max (arr - dep) 1)))

pub approach_fraction-fits : (clock arr run : ℕ) → T (fits binary64 (approach_fraction clock arr run))
unfolding approach_fraction
approach_fraction-fits clock arr run = clamp_fits _ (sub-fits binary64 one (div binary64 (whole (arr - clock)) (run_over run)))

-- ---- the order
-- of quotients with whole numbers above
quotient_order : (a b : ℕ) (z : Float) → b ≤ 4294967296 → a ≤ b → T (lt nought z) → T (le (div binary64 (whole a) z) (div binary64 (whole b) z))
quotient_order a b z B h Z =
    div_mono binary64 (whole a) (whole b) z Z (div-number binary64 (whole a) z (int_finite binary64 a (le_trans h (le_trans B (lit≤ tt)))) Z)
    (div-number binary64 (whole b) z (int_finite binary64 b (le_trans B (lit≤ tt))) Z) (int_mono binary64 a b h)

pub leg_fraction_order : (clock clock' dep arr : ℕ) → clock' < 4294967296 → clock ≤ clock' → T (le (leg_fraction clock dep arr) (leg_fraction clock' dep arr))
unfolding leg_fraction
leg_fraction_order clock clock' dep arr C h =
    let z = whole (max (arr - dep) 1) in
    clamp_mono (div binary64 (whole (clock - dep)) z) (div binary64 (whole (clock' - dep)) z)
    (quotient_order (clock - dep) (clock' - dep) z (omega arith) (omega arith) (int_pos binary64 (max (arr - dep) 1) (omega arith)))

-- a scheduled run in seconds, 30 at least
above_30 : T (lt (whole 30) (whole 31))
unfolding of_int lt
above_30 = tt

run_is : (run : ℕ) → run_over run ≡ whole (max run 30)
unfolding run_over max_of
run_is run = ⊎_elim short long (le_or_lt run 30)
  where
    pick : (b : Bool) → (T b → ⊥) → cond b (whole run) (whole 30) ≡ whole 30
    pick true f = absurd (f tt)
    pick false f = refl

    take : (b : Bool) → T b → cond b (whole run) (whole 30) ≡ whole run
    take true t = refl
    take false t = absurd t

    short : run ≤ 30 → cond (lt (whole 30) (whole run)) (whole run) (whole 30) ≡ whole (max run 30)
    short h =
        let e : max run 30 ≡ 30 = omega arith in
        rw e (pick (lt (whole 30) (whole run)) (λ t. lt_not_le (whole 30) (whole run) t (int_mono binary64 run 30 h)))

    long : 30 < run → cond (lt (whole 30) (whole run)) (whole run) (whole 30) ≡ whole (max run 30)
    long h =
        let e : max run 30 ≡ run = omega arith in
        rw e (take (lt (whole 30) (whole run)) (lt_of_lt-le (whole 30) (whole 31) (whole run) above_30 (int_mono binary64 31 run h)))

run_pos : (run : ℕ) → T (lt nought (run_over run))
run_pos run = rw (run_is run) (int_pos binary64 (max run 30) (omega arith))

pub approach_fraction_order : (clock clock' arr run : ℕ) → arr < 4294967296 → clock ≤ clock' → T (le (approach_fraction clock arr run) (approach_fraction clock' arr run))
unfolding approach_fraction
approach_fraction_order clock clock' arr run A h =
    let z = run_over run in
    let x = div binary64 (whole (arr - clock)) z in
    let y = div binary64 (whole (arr - clock')) z in
    let o = quotient_order (arr - clock') (arr - clock) z (omega arith) (omega arith) (run_pos run) in
    clamp_mono (sub binary64 one x) (sub binary64 one y)
    (sub_anti binary64 one y x (sub-number_left binary64 one y tt (le-number_left y x o)) (sub-number_left binary64 one x tt (le-number_right y x o)) o)

-- ---- strictly inside
pub leg_fraction_inside : (clock dep arr : ℕ) → arr < 4294967296 → dep < clock → clock < arr → Inside (leg_fraction clock dep arr)
unfolding leg_fraction
leg_fraction_inside clock dep arr A h k =
    let i = inside_quotient (clock - dep) (max (arr - dep) 1) (omega arith) (omega arith) (omega arith) in
    rw (inside_clamped _ i) i

pub approach_fraction_inside : (clock arr run : ℕ) → run ≤ 604799 → clock < arr → arr - clock < max run 30 → Inside (approach_fraction clock arr run)
unfolding approach_fraction
approach_fraction_inside clock arr run R h k =
    let i = inside_quotient (arr - clock) (max run 30) (omega arith) k (omega arith) in
    rw (run_is run, inside_clamped _ (inside_turned _ i)) (inside_turned _ i)

-- while the scheduled run or more is left, an approach is at its start
pub approach_fraction_start : (clock arr run : ℕ) → arr < 4294967296 → run ≤ 604799 → max run 30 ≤ arr - clock → T (le (approach_fraction clock arr run) nought)
unfolding approach_fraction clamp01_of sub lt
approach_fraction_start clock arr run A R h =
    let z = whole (max run 30) in
    let x = div binary64 (whole (arr - clock)) z in
    let Z = int_pos binary64 (max run 30) (omega arith) in
    let o = rw (div_self binary64 z (int_finite binary64 (max run 30) (le_trans {m = 4294967296} (omega arith) (lit≤ tt))) Z) at (quotient_order (max run 30) (arr - clock) z (omega arith) h Z) in
    rw (run_is run)
    (clamp_mono (sub binary64 one x) (sub binary64 one one)
    (sub_anti binary64 one one x (sub-number_left binary64 one one tt (le-number_left one x o)) (sub-number_left binary64 one x tt (le-number_right one x o)) o))

-- before its arrival an approach is at its start, or strictly inside
pub approach_fraction_where : (clock arr run : ℕ) → arr < 4294967296 → run ≤ 604799 → clock < arr → T (le (approach_fraction clock arr run) nought) ⊎ Inside (approach_fraction clock arr run)
approach_fraction_where clock arr run A R h =
    ⊎_elim (λ k. inl (approach_fraction_start clock arr run A R k)) (λ k. inr (approach_fraction_inside clock arr run R h k)) (le_or_lt (max run 30) (arr - clock))

-- ---- from 0 to 1
module _ (clock dep arr : ℕ) (C : clock < 4294967296) where
  leg_number : T (number (div binary64 (whole (clock - dep)) (whole (max (arr - dep) 1))))
  leg_number = le-number_left _ _ (quotient_order (clock - dep) (clock - dep) (whole (max (arr - dep) 1)) (omega arith) (omega arith) (int_pos binary64 (max (arr - dep) 1) (omega arith)))

  pub leg_fraction_low : T (le nought (leg_fraction clock dep arr))
  unfolding leg_fraction
  leg_fraction_low = clamp_low _ leg_number

  pub leg_fraction_high : T (le (leg_fraction clock dep arr) one)
  unfolding leg_fraction
  leg_fraction_high = clamp_high _ leg_number

module _ (clock arr run : ℕ) (A : arr < 4294967296) where
  approach_number : T (number (sub binary64 one (div binary64 (whole (arr - clock)) (run_over run))))
  approach_number = sub-number_left binary64 one _ tt (le-number_left _ _ (quotient_order (arr - clock) (arr - clock) (run_over run) (omega arith) (omega arith) (run_pos run)))

  pub approach_fraction_low : T (le nought (approach_fraction clock arr run))
  unfolding approach_fraction
  approach_fraction_low = clamp_low _ approach_number

  pub approach_fraction_high : T (le (approach_fraction clock arr run) one)
  unfolding approach_fraction
  approach_fraction_high = clamp_high _ approach_number
