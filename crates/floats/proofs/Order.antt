-- `le` and `lt` on every value but the NaN: `le` is reflexive, transitive and total, `lt` is where `le` the other way fails, and the infinities are the ends.
-- Two zeros of opposite signs are equal. `nonneg` and `above` say which values are at least zero and above it, `ordered` which pairs are in order: what the laws of the
-- operations take apart. Assumes nothing.
use mathlib.Core.Path.{refl}
use mathlib.Core.Logic.{◌⊎◌, inl, inr}
use Prim.Native.Nat.{ℕ, zero, suc, ◌+◌, ◌-◌, ◌*◌, ◌≤◌, ◌<◌}
use native.Mathlib.Nat.{le_refl, le_antisymm, not-le_of_lt, le_of_mul-le-mul_right, mul-le-mul_right, mul-pos, zero-lt-suc}
use native.Mathlib.Omega.{arith}
use mathlib.Core.Bool.{Bool, true, false, not}
use lib.IntN.{ℤ, pos}
use lib.Dec.{T, T_not}
use lib.Ieee.{Float, nan, inf, fin, Format, up, down, round, neg, lt, eq, le}
use lib.Ieee.Fits.{up_pos}
use lib.Ieee.Scale.{finite}
use lib.Ieee.Positive.{den, den_pos}
use Rattle.floats.proofs.Signed.{plus, less, Below, HasSign, Rounds, round_sign, signs_le, or_left, le_or_lt, lt→under, under→lt, le→below, below→le, level→eq}
pub use Rattle.floats.specs.Number.{nought, one}
pub use Rattle.floats.proofs.Signed.{neg-le, neg-neg}

-- ---- every value but the NaN
abbrev pub number : Float → Bool
number nan = false
number (inf s) = true
number (fin s m e) = true

pub finite_number : (x : Float) → T (finite x) → T (number x)
finite_number nan p = absurd p
finite_number (inf s) p = absurd p
finite_number (fin s m e) p = tt

sign_number : (s : Bool) (x : Float) → HasSign s x → T (number x)
sign_number s nan h = absurd h
sign_number s (inf t) h = tt
sign_number s (fin t m e) h = tt

pub round_number : (f : Format) (s : Bool) (a c : ℕ) → T (number (round f s a c))
round_number f s a c = sign_number s (round f s a c) (round_sign f s a c)

pub rounds_number : (f : Format) (r : Float) (p n c : ℕ) → Rounds f r p n c → T (number r)
rounds_number f r p n c (inl h) = rw h.1 (round_number f false (p - n) c)
rounds_number f r p n c (inr h) = rw h.1 (round_number f true (n - p) c)

pub le-number_left : (x y : Float) → T (le x y) → T (number x)
unfolding le
le-number_left nan y h = absurd h
le-number_left (inf s) y h = tt
le-number_left (fin s m e) y h = tt

pub le-number_right : (x y : Float) → T (le x y) → T (number y)
unfolding le
le-number_right nan y h = absurd h
le-number_right (inf s) nan h = absurd h
le-number_right (inf s) (inf t) h = tt
le-number_right (inf s) (fin t n d) h = tt
le-number_right (fin s m e) nan h = absurd h
le-number_right (fin s m e) (inf t) h = tt
le-number_right (fin s m e) (fin t n d) h = tt

-- ---- the infinities are the ends
pub bottom : (x : Float) → T (number x) → T (le (inf true) x)
unfolding le lt eq
bottom nan h = absurd h
bottom (inf true) h = tt
bottom (inf false) h = tt
bottom (fin s m e) h = tt

pub top : (x : Float) → T (number x) → T (le x (inf false))
unfolding le lt eq
top nan h = absurd h
top (inf true) h = tt
top (inf false) h = tt
top (fin s m e) h = tt

-- ---- `le` is reflexive and transitive
pub refl_le : (x : Float) → T (number x) → T (le x x)
unfolding le lt eq
refl_le nan h = absurd h
refl_le (inf true) h = tt
refl_le (inf false) h = tt
refl_le (fin s m e) h = below→le (fin s m e) (fin s m e) tt tt (le_refl _)

below_trans : (x y z : Float) → Below x y → Below y z → Below x z
below_trans x y z h k = go (plus x) (less x) (den x) (plus y) (less y) (den y) (plus z) (less z) (den z) (den_pos y) h k
  where
    go : (p n c q m d r o e : ℕ) → 0 < d → p * d + m * c ≤ q * c + n * d → q * e + o * d ≤ r * d + m * e → p * e + o * c ≤ r * c + n * e
    go p n c q m d r o e D h k = le_of_mul-le-mul_right {k = d} (omega (arith, mul-le-mul_right e h, mul-le-mul_right c k)) D

from_top : (y z : Float) → T (le (inf false) y) → T (le y z) → T (le (inf false) z)
unfolding le lt eq
from_top nan z h k = absurd h
from_top (inf true) z h k = absurd h
from_top (inf false) z h k = k
from_top (fin t n d) z h k = absurd h

pub trans_le : (x y z : Float) → T (le x y) → T (le y z) → T (le x z)
unfolding le lt eq
trans_le nan y z h k = absurd h
trans_le (inf true) y z h k = bottom z (le-number_right y z k)
trans_le (inf false) y z h k = from_top y z h k
trans_le (fin s m e) nan z h k = absurd h
trans_le (fin s m e) (inf true) z h k = absurd h
trans_le (fin s m e) (inf false) nan h k = absurd k
trans_le (fin s m e) (inf false) (inf true) h k = absurd k
trans_le (fin s m e) (inf false) (inf false) h k = tt
trans_le (fin s m e) (inf false) (fin t n d) h k = absurd k
trans_le (fin s m e) (fin t n d) nan h k = absurd k
trans_le (fin s m e) (fin t n d) (inf u) h k = k
trans_le (fin s m e) (fin t n d) (fin u o g) h k =
    below→le (fin s m e) (fin u o g) tt tt (below_trans (fin s m e) (fin t n d) (fin u o g) (le→below (fin s m e) (fin t n d) tt tt h) (le→below (fin t n d) (fin u o g) tt tt k))

-- ---- `lt` is where `le` the other way fails
pub lt-le : (x y : Float) → T (lt x y) → T (le x y)
unfolding le
lt-le x y h = or_left (lt x y) (eq x y) h

pub not_lt-le : (x y : Float) → T (number x) → T (number y) → T (not (lt x y)) → T (le y x)
unfolding le lt eq
not_lt-le nan y p q h = absurd p
not_lt-le (inf true) nan p q h = absurd q
not_lt-le (inf true) (inf true) p q h = tt
not_lt-le (inf true) (inf false) p q h = absurd h
not_lt-le (inf true) (fin t n d) p q h = absurd h
not_lt-le (inf false) nan p q h = absurd q
not_lt-le (inf false) (inf true) p q h = tt
not_lt-le (inf false) (inf false) p q h = tt
not_lt-le (inf false) (fin t n d) p q h = tt
not_lt-le (fin s m e) nan p q h = absurd q
not_lt-le (fin s m e) (inf true) p q h = tt
not_lt-le (fin s m e) (inf false) p q h = absurd h
not_lt-le (fin s m e) (fin t n d) p q h =
    let x = fin s m e in
    let y = fin t n d in
    elim (le_or_lt (plus y * den x + less x * den y) (plus x * den y + less y * den x)) [
      | inl g ↦ below→le y x tt tt g
      | inr g ↦ absurd (T_not (lt x y) h (under→lt x y tt tt g))
    ]

pub not_le-lt : (x y : Float) → T (number x) → T (number y) → T (not (le x y)) → T (lt y x)
not_le-lt x y p q h = go (lt y x) (not_lt-le y x q p)
  where
    go : (b : Bool) → (T (not b) → T (le x y)) → T b
    go true k = tt
    go false k = absurd (T_not (le x y) h (k tt))

pub lt_not_le : (x y : Float) → T (lt x y) → T (le y x) → ⊥
unfolding le lt eq
lt_not_le nan y h k = h
lt_not_le (inf true) nan h k = h
lt_not_le (inf true) (inf true) h k = h
lt_not_le (inf true) (inf false) h k = k
lt_not_le (inf true) (fin t n d) h k = k
lt_not_le (inf false) nan h k = h
lt_not_le (inf false) (inf t) h k = h
lt_not_le (inf false) (fin t n d) h k = h
lt_not_le (fin s m e) nan h k = h
lt_not_le (fin s m e) (inf true) h k = h
lt_not_le (fin s m e) (inf false) h k = k
lt_not_le (fin s m e) (fin t n d) h k = not-le_of_lt (lt→under (fin s m e) (fin t n d) tt tt h) (le→below (fin t n d) (fin s m e) tt tt k)

pub total_le : (x y : Float) → T (number x) → T (number y) → T (le x y) ⊎ T (le y x)
total_le x y p q = go (lt x y) (lt-le x y) (not_lt-le x y p q)
  where
    go : (b : Bool) → (T b → T (le x y)) → (T (not b) → T (le y x)) → T (le x y) ⊎ T (le y x)
    go true h k = inl (h tt)
    go false h k = inr (k tt)

pub lt_of_lt-le : (x y z : Float) → T (lt x y) → T (le y z) → T (lt x z)
lt_of_lt-le x y z h k = go (lt x z) (not_lt-le x z (le-number_left x y (lt-le x y h)) (le-number_right y z k))
  where
    go : (b : Bool) → (T (not b) → T (le z x)) → T b
    go true g = tt
    go false g = absurd (lt_not_le x y h (trans_le y z x k (g tt)))

pub lt_of_le-lt : (x y z : Float) → T (le x y) → T (lt y z) → T (lt x z)
lt_of_le-lt x y z h k = go (lt x z) (not_lt-le x z (le-number_left x y h) (le-number_right y z (lt-le y z k)))
  where
    go : (b : Bool) → (T (not b) → T (le z x)) → T b
    go true g = tt
    go false g = absurd (lt_not_le y z k (trans_le z x y (g tt) h))

-- ---- `eq` is `le` both ways, and either zero is at most the other
pub le_antisym : (x y : Float) → T (le x y) → T (le y x) → T (eq x y)
unfolding le lt eq
le_antisym nan y h k = absurd h
le_antisym (inf true) nan h k = absurd h
le_antisym (inf true) (inf true) h k = tt
le_antisym (inf true) (inf false) h k = absurd k
le_antisym (inf true) (fin t n d) h k = absurd k
le_antisym (inf false) nan h k = absurd h
le_antisym (inf false) (inf true) h k = absurd h
le_antisym (inf false) (inf false) h k = tt
le_antisym (inf false) (fin t n d) h k = absurd h
le_antisym (fin s m e) nan h k = absurd h
le_antisym (fin s m e) (inf true) h k = absurd h
le_antisym (fin s m e) (inf false) h k = absurd k
le_antisym (fin s m e) (fin t n d) h k =
    level→eq (fin s m e) (fin t n d) tt tt (le_antisymm (le→below (fin s m e) (fin t n d) tt tt h) (le→below (fin t n d) (fin s m e) tt tt k))

pub zeros_le : (s t : Bool) (e d : ℤ) → T (le (fin s 0 e) (fin t 0 d))
zeros_le false false e d = below→le (fin false 0 e) (fin false 0 d) tt tt (omega arith)
zeros_le false true e d = below→le (fin false 0 e) (fin true 0 d) tt tt (omega arith)
zeros_le true false e d = below→le (fin true 0 e) (fin false 0 d) tt tt (omega arith)
zeros_le true true e d = below→le (fin true 0 e) (fin true 0 d) tt tt (omega arith)

-- ---- the values that are at least zero, and those above it
pub data NonNeg : Float → Type 0 where
  clear : (m : ℕ) (e : ℤ) → NonNeg (fin false m e)
  minus : (e : ℤ) → NonNeg (fin true 0 e)
  endless : NonNeg (inf false)

pub nonneg : (x : Float) → T (le nought x) → NonNeg x
unfolding le lt eq
nonneg nan h = absurd h
nonneg (inf true) h = absurd h
nonneg (inf false) h = endless
nonneg (fin false m e) h = clear m e
nonneg (fin true zero e) h = minus e
nonneg (fin true (suc m) e) h = absurd (never (suc m * up e) (down e) (mul-pos (zero-lt-suc m) (up_pos e)) (le→below nought (fin true (suc m) e) tt tt h))
  where
    never : (a d : ℕ) → 0 < a → 0 * d + a * 1 ≤ 0 * 1 + 0 * d → ⊥
    never a d h k = omega arith

pub neg_nonneg : (x : Float) → T (le x nought) → T (le nought (neg x))
neg_nonneg x h = trans_le nought (neg nought) (neg x) (unfold neg in zeros_le false true (pos 0) (pos 0)) (neg-le x nought h)

pub round_nonneg : (f : Format) (a c : ℕ) → T (le nought (round f false a c))
round_nonneg f a c = trans_le nought (fin true 0 (pos 0)) (round f false a c) (zeros_le false true (pos 0) (pos 0)) (signs_le (fin true 0 (pos 0)) (round f false a c) refl (round_sign f false a c))

pub nonneg_le : {x : Float} → NonNeg x → T (le nought x)
unfolding le
nonneg_le (clear m e) = below→le nought (fin false m e) tt tt (omega arith)
nonneg_le (minus e) = zeros_le false true (pos 0) e
nonneg_le endless = tt

-- as (plus - less) / den
pub less_plus : (y : Float) → T (finite y) → T (le nought y) → less y ≤ plus y
less_plus y q h = go (plus y) (less y) (den y) (le→below nought y tt q h)
  where
    go : (p n d : ℕ) → 0 * d + n * 1 ≤ p * 1 + 0 * d → n ≤ p
    go p n d h = omega arith

pub data Above : Float → Type 0 where
  some : (m : ℕ) (e : ℤ) → 0 < m → Above (fin false m e)
  unbounded : Above (inf false)

pub above : (x : Float) → T (lt nought x) → Above x
unfolding lt
above nan h = absurd h
above (inf true) h = absurd h
above (inf false) h = unbounded
above (fin false zero e) h = absurd (lt_not_le nought (fin false 0 e) h (zeros_le false false e (pos 0)))
above (fin false (suc m) e) h = some (suc m) e (zero-lt-suc m)
above (fin true m e) h = absurd h

-- ---- the pairs that are in order
pub data Ordered : Float → Float → Type 0 where
  least : (y : Float) → T (number y) → Ordered (inf true) y
  greatest : (x : Float) → T (number x) → Ordered x (inf false)
  between : (s : Bool) (m : ℕ) (e : ℤ) (t : Bool) (n : ℕ) (d : ℤ) → T (le (fin s m e) (fin t n d)) → Ordered (fin s m e) (fin t n d)

pub ordered : (x y : Float) → T (le x y) → Ordered x y
unfolding le lt eq
ordered nan y h = absurd h
ordered (inf true) y h = least y (le-number_right (inf true) y h)
ordered (inf false) nan h = absurd h
ordered (inf false) (inf true) h = absurd h
ordered (inf false) (inf false) h = greatest (inf false) tt
ordered (inf false) (fin t n d) h = absurd h
ordered (fin s m e) nan h = absurd h
ordered (fin s m e) (inf true) h = absurd h
ordered (fin s m e) (inf false) h = greatest (fin s m e) tt
ordered (fin s m e) (fin t n d) h = between s m e t n d h

-- what lies between zero and a finite value is finite
pub le-finite : (x y : Float) → T (le nought x) → T (le x y) → T (finite y) → T (finite x)
unfolding le lt eq
le-finite nan y z h q = absurd z
le-finite (inf true) y z h q = absurd z
le-finite (inf false) nan z h q = absurd q
le-finite (inf false) (inf t) z h q = absurd q
le-finite (inf false) (fin t n d) z h q = absurd h
le-finite (fin s m e) y z h q = tt
