-- The clamp to 0..1 does not fall, nor does the fraction of a stretch as its target goes on. Assumes nothing.
use mathlib.Core.Bool.{Bool, true, false, not, cond}
use lib.Dec.{T}
use lib.Ieee.{Float, binary64, sub, div, lt, eq, le, fits, of_int}
use lib.Ieee.Scale.{finite}
use Rattle.floats.specs.Number.{nought, one}
use Rattle.floats.proofs.Order.{number, le-number_left, le-number_right, trans_le, lt-le, not_lt-le, lt_not_le, lt_of_lt-le, le-finite}
use Rattle.floats.proofs.Sums.{sub-number_left, sub_mono, sub_nonneg, sub-le}
use Rattle.floats.proofs.Products.{div-number, div_mono, one_pos}
use Rattle.ieee.specs.Number.{clamp01_of, max_of}
use Rattle.first_stretch.specs.Search.{micro, fraction_of}

-- ---- the clamp

pub zero_zero : T (le nought nought)
unfolding le lt eq
zero_zero = tt

zero_one : T (le nought one)
unfolding le lt eq
zero_one = tt

one_one : T (le one one)
unfolding le lt eq
one_one = tt

pub clamp_low : (x : Float) → T (number x) → T (le nought (clamp01_of x))
unfolding clamp01_of
clamp_low x n = go (lt x nought) (lt one x) (not_lt-le x nought n tt)
  where
    go : (a b : Bool) → (T (not a) → T (le nought x)) → T (le nought (cond a nought (cond b one x)))
    go true b h = zero_zero
    go false true h = zero_one
    go false false h = h tt

pub clamp_high : (x : Float) → T (number x) → T (le (clamp01_of x) one)
unfolding clamp01_of
clamp_high x n = go (lt x nought) (lt one x) (not_lt-le one x tt n)
  where
    go : (a b : Bool) → (T (not b) → T (le x one)) → T (le (cond a nought (cond b one x)) one)
    go true b h = zero_one
    go false true h = one_one
    go false false h = h tt

-- what is not zero or less does not come to it, nor does NaN
pub clamp_above : (x : Float) → (T (le x nought) → ⊥) → T (le (clamp01_of x) nought) → ⊥
unfolding clamp01_of
clamp_above x p = go (lt x nought) (lt one x) (λ h. p (lt-le x nought h))
  where
    go : (a b : Bool) → (T a → ⊥) → T (le (cond a nought (cond b one x)) nought) → ⊥
    go true b h k = h tt
    go false true h k = lt_not_le nought one one_pos k
    go false false h k = p k

pub clamp_mono : (x y : Float) → T (le x y) → T (le (clamp01_of x) (clamp01_of y))
unfolding clamp01_of
clamp_mono x y h =
    let n = le-number_left x y h in
    let m = le-number_right x y h in
    go (lt x nought) (lt one x) (lt y nought) (lt one y) (not_lt-le x nought n tt) (lt-le one x) (not_lt-le one x tt n) (lt_not_le y nought) (not_lt-le y nought m tt)
  where
    go : (a b c d : Bool) → (T (not a) → T (le nought x)) → (T b → T (le one x)) → (T (not b) → T (le x one)) → (T c → T (le nought y) → ⊥) → (T (not c) → T (le nought y)) →
        T (le (cond a nought (cond b one x)) (cond c nought (cond d one y)))
    go true b true d p q r s t = zero_zero
    go true b false true p q r s t = zero_one
    go true b false false p q r s t = t tt
    go false b true d p q r s t = absurd (s tt (trans_le nought x y (p tt) h))
    go false true false true p q r s t = one_one
    go false true false false p q r s t = trans_le one x y (q tt) h
    go false false false true p q r s t = r tt
    go false false false false p q r s t = h

-- ---- the fraction of a stretch

pub micro_pos : T (lt nought micro)
unfolding micro div of_int lt
micro_pos = tt

-- what it is divided by is above zero
divisor_pos : (x : Float) → T (lt nought (max_of x micro))
unfolding max_of
divisor_pos x = go (lt micro x) (lt-le micro x)
  where
    go : (a : Bool) → (T a → T (le micro x)) → T (lt nought (cond a x micro))
    go true h = lt_of_lt-le nought micro x micro_pos (h tt)
    go false h = micro_pos

-- a target: a finite value that the format holds
pub record Aim (t : Float) : Type 0 where
  pub bound : T (finite t)
  pub held : T (fits binary64 t)

-- a target less a length before it
pub record Past (t c : Float) : Type 0 where
  pub is_number : T (number (sub binary64 t c))
  pub bound : T (finite (sub binary64 t c))

past : (t c : Float) → Aim t → T (le nought c) → T (le c t) → Past t c
past t c a z h =
    let n = sub-number_left binary64 t c a.bound (le-number_left c t h) in
    record { is_number = n; bound = le-finite (sub binary64 t c) t (sub_nonneg binary64 c t n h) (sub-le binary64 t c a.held z n) a.bound }

pub fraction_mono : (t u c c' : Float) → Aim t → Aim u → T (le nought c) → T (le c t) → T (le t u) → T (le (fraction_of t c c') (fraction_of u c c'))
unfolding fraction_of
fraction_mono t u c c' a b z h k =
    let d = max_of (sub binary64 c' c) micro in
    let p = past t c a z h in
    let q = past u c b z (trans_le c t u h k) in
    let D = divisor_pos (sub binary64 c' c) in
    clamp_mono (div binary64 (sub binary64 t c) d) (div binary64 (sub binary64 u c) d)
    (div_mono binary64 (sub binary64 t c) (sub binary64 u c) d D (div-number binary64 (sub binary64 t c) d p.bound D) (div-number binary64 (sub binary64 u c) d q.bound D)
    (sub_mono binary64 t u c p.is_number q.is_number k))
