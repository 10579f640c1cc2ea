-- `Within n x`: x is finite, and its size is at most the whole number n. Rounding keeps such a bound as long as the format holds n, so a sum is within the sum of its parts'
-- bounds and a product within the product of its factors', for bounds of at most 2 ^ prec. In the order, it says that x lies between -n and n.
-- Assumes nothing.
use mathlib.Core.Path.{◌≡◌, sym}
use mathlib.Core.Logic.{inl, inr}
use Prim.Native.Nat.{ℕ, zero, suc, ◌+◌, ◌-◌, ◌*◌, ◌^◌, ◌≤◌, ◌<◌, zero-le}
use native.Mathlib.Nat.{le_refl, le_of_lt, one-mul, mul-one, le_trans, le_of_eq, le_of_mul-le-mul_right, mul-le-mul_right, mul-le-mul, mul-pos, mul-mul-mul_comm}
use native.Mathlib.Omega.{arith}
use mathlib.Core.Bool.{Bool, true, false, true≢false}
use lib.IntN.{pos}
use lib.Dec.{T, lit<}
use lib.Pow.{pow_pos, pow-add, pow-lt}
use lib.Ieee.{Float, nan, inf, fin, Format, binary32, binary64, prec, emax, low, up, down, unlike, round, neg, add, sub, mul, div, of_int, fits, le}
use lib.Ieee.Fits.{up_pos}
use lib.Ieee.Exact.{HasValue, round_exact}
use lib.Ieee.Back.{round_whole}
use lib.Ieee.Order.{round_mono}
use lib.Ieee.Scale.{finite}
use lib.Ieee.Positive.{num, den, den_pos}
use Rattle.floats.proofs.Signed.{plus, less, Below, le→below, below→le, neg-round, Rounds}
use Rattle.floats.proofs.Order.{number, nought, one, finite_number, round_nonneg, le-number_left, total_le, neg-le, neg-neg, neg_nonneg, NonNeg, clear, minus, endless, nonneg, Above, some, unbounded, above, le-finite}
use Rattle.floats.proofs.Own.{fits_bounds}
use Rattle.floats.proofs.Sums.{add_is}
use Rattle.floats.proofs.Products.{negative, mul-round, div_is, unit_num, one_den, above_one}
use Rattle.floats.proofs.Whole.{int_exact}

-- ---- the bound, on a value of either sign
pub record Within (n : ℕ) (x : Float) : Type 0 where
  pub is_finite : T (finite x)
  pub small : num x ≤ n * den x

pub within_finite : {n : ℕ} {x : Float} → Within n x → T (finite x)
within_finite h = h.is_finite

pub within_number : {n : ℕ} {x : Float} → Within n x → T (number x)
within_number {n} {x} h = finite_number x h.is_finite

pub within_weaken : {n m : ℕ} {x : Float} → n ≤ m → Within n x → Within m x
within_weaken {n} {m} {x} k h = record { is_finite = h.is_finite; small = le_trans h.small (mul-le-mul_right (den x) k) }

pub within_neg : {n : ℕ} {x : Float} → Within n x → Within n (neg x)
within_neg {n} {x} h = go x h.is_finite h.small
  where
    go : (x : Float) → T (finite x) → num x ≤ n * den x → Within n (neg x)
    go nan p k = absurd p
    go (inf s) p k = absurd p
    go (fin s m e) p k = unfold neg in record { is_finite = tt; small = k }

-- ---- what is at least zero and at most a value within n
plus-num : (x : Float) → plus x ≤ num x
plus-num nan = zero-le
plus-num (inf s) = zero-le
plus-num (fin false m e) = le_refl (m * up e)
plus-num (fin true m e) = zero-le

less_num : (x : Float) → less x ≤ num x
less_num nan = zero-le
less_num (inf s) = zero-le
less_num (fin false m e) = zero-le
less_num (fin true m e) = le_refl (m * up e)

sizes : {x : Float} (y : Float) → NonNeg x → T (finite x) → Below x y → num x * den y ≤ num y * den x
sizes y (clear m e) p h = omega (arith, mul-le-mul_right (down e) (plus-num y))
sizes y (minus e) p h = omega arith
sizes y endless p h = absurd p

pub le_within : {n : ℕ} {x y : Float} → T (le nought x) → T (le x y) → Within n y → Within n x
le_within {n} {x} {y} z h k =
    let p = le-finite x y z h k.is_finite in
    record {
      is_finite = p;
      small = go (num x) (num y) (den x) (den y) (den_pos y) (sizes y (nonneg x z) p (le→below x y p k.is_finite h)) k.small;
    }
  where
    go : (a b c d : ℕ) → 0 < d → a * d ≤ b * c → b ≤ n * d → a ≤ n * c
    go a b c d D h k = le_of_mul-le-mul_right {k = d} (omega (arith, mul-le-mul_right c k)) D

-- ---- every finite value that fits is within 2 ^ (emax + 1)
pub fits_within : (f : Format) (x : Float) → T (fits f x) → T (finite x) → Within (2 ^ suc (emax f)) x
fits_within f nan F p = absurd p
fits_within f (inf s) F p = absurd p
fits_within f (fin s zero e) F p = record { is_finite = tt; small = none (up e) (2 ^ suc (emax f) * down e) }
  where
    none : (a b : ℕ) → 0 * a ≤ b
    none a b = omega arith
fits_within f (fin s (suc m) e) F p = record { is_finite = tt; small = le_of_lt (fits_bounds f s m e F).2 }

-- ---- rounding keeps the bound
value_within : (n : ℕ) (s : Bool) (x : Float) → HasValue x s n 1 → Within n x
value_within n s nan h = absurd h
value_within n s (inf t) h = absurd h
value_within n s (fin t m e) h = record { is_finite = tt; small = go (m * up e) (n * down e) h.1 }
  where
    go : (a b : ℕ) → a * 1 ≡ b → a ≤ b
    go a b h = omega arith

-- the format holds n: any up to 2 ^ prec, and any power of two up to 2 ^ emax
abbrev pub Held : Format → ℕ → Type 0
Held f n = HasValue (round f false n 1) false n 1

pub held_whole : (f : Format) (n : ℕ) → n ≤ 2 ^ prec f → Held f n
held_whole f n h = round_whole f false n h

pub held_power : (f : Format) (k : ℕ) → k ≤ emax f → Held f (2 ^ k)
held_power f k h = round_exact f false (2 ^ k) 1 1 (k + low f) (pow_pos 0) (two_up f) (rw (one-mul (2 ^ (k + low f))) (pow-lt {i = k + low f} {j = low f + suc (emax f)} (omega arith)))
    (rw (mul-one (1 * 2 ^ (k + low f)), one-mul (2 ^ (k + low f)), pow-add 2 k (low f)))
  where
    two_up : (f : Format) → 1 < 2 ^ prec f
    two_up binary32 = lit< tt
    two_up binary64 = lit< tt

clear_held : (f : Format) (a c n : ℕ) → 0 < c → Held f n → a ≤ n * c → Within n (round f false a c)
clear_held f a c n C N h = le_within (round_nonneg f a c) (round_mono f a c n 1 C (pow_pos 0) (omega arith)) (value_within n false (round f false n 1) N)

pub round_held : (f : Format) (s : Bool) (a c n : ℕ) → 0 < c → Held f n → a ≤ n * c → Within n (round f s a c)
round_held f false a c n C N h = clear_held f a c n C N h
round_held f true a c n C N h = rw (← neg-round f a c) (within_neg (clear_held f a c n C N h))

pub round_within : (f : Format) (s : Bool) (a c n : ℕ) → 0 < c → n ≤ 2 ^ prec f → a ≤ n * c → Within n (round f s a c)
round_within f s a c n C N h = round_held f s a c n C (held_whole f n N) h

rounds_held : (f : Format) (r : Float) (p n c k : ℕ) → 0 < c → Held f k → p ≤ n + k * c → n ≤ p + k * c → Rounds f r p n c → Within k r
rounds_held f r p n c k C K g h (inl i) = rw i.1 (round_held f false (p - n) c k C K (omega arith))
rounds_held f r p n c k C K g h (inr i) = rw i.1 (round_held f true (n - p) c k C K (omega arith))

-- ---- sums and differences
added : (p q c d a b n : ℕ) → p ≤ a * c → q ≤ b * d → p * d + q * c ≤ n + (a + b) * (c * d)
added p q c d a b n h k = omega (arith, mul-le-mul_right d h, mul-le-mul_right c k)

pub add_held : (f : Format) {a b : ℕ} {x y : Float} → Held f (a + b) → Within a x → Within b y → Within (a + b) (add f x y)
add_held f {a} {b} {x} {y} N h k =
    rounds_held f (add f x y) (plus x * den y + plus y * den x) (less x * den y + less y * den x) (den x * den y) (a + b) (mul-pos (den_pos x) (den_pos y)) N
    (added (plus x) (plus y) (den x) (den y) a b _ (le_trans (plus-num x) h.small) (le_trans (plus-num y) k.small))
    (added (less x) (less y) (den x) (den y) a b _ (le_trans (less_num x) h.small) (le_trans (less_num y) k.small))
    (add_is f x y h.is_finite k.is_finite)

pub within_add : (f : Format) {a b : ℕ} {x y : Float} → a + b ≤ 2 ^ prec f → Within a x → Within b y → Within (a + b) (add f x y)
within_add f {a} {b} N h k = add_held f (held_whole f (a + b) N) h k

pub within_sub : (f : Format) {a b : ℕ} {x y : Float} → a + b ≤ 2 ^ prec f → Within a x → Within b y → Within (a + b) (sub f x y)
unfolding sub
within_sub f N h k = within_add f N h (within_neg k)

-- ---- products and quotients
pub within_mul : (f : Format) {a b : ℕ} {x y : Float} → a * b ≤ 2 ^ prec f → Within a x → Within b y → Within (a * b) (mul f x y)
within_mul f {a} {b} {x} {y} N h k =
    rw (mul-round f x y h.is_finite k.is_finite)
    (round_within f (unlike (negative x) (negative y)) (num x * num y) (den x * den y) (a * b) (mul-pos (den_pos x) (den_pos y)) N
    (le_trans (mul-le-mul h.small k.small) (le_of_eq (mul-mul-mul_comm a (den x) b (den y)))))

pub within_mul_unit : (f : Format) {n : ℕ} {x : Float} (z : Float) → n ≤ 2 ^ prec f → Within n x → T (le nought z) → T (le z one) → Within n (mul f x z)
within_mul_unit f {n} {x} z N h k i =
    let q = le-finite z one k i tt in
    rw (mul-round f x z h.is_finite q)
    (round_within f (unlike (negative x) (negative z)) (num x * num z) (den x * den z) n (mul-pos (den_pos x) (den_pos z)) N
    (go (num x) (den x) (num z) (den z) h.small (unit_num (nonneg z k) q i)))
  where
    go : (a c b d : ℕ) → a ≤ n * c → b ≤ d → a * b ≤ n * (c * d)
    go a c b d h k = le_trans (mul-le-mul h k) (omega arith)

div_within : (f : Format) {n : ℕ} {x z : Float} → n ≤ 2 ^ prec f → Within n x → Above z → T (le one z) → Within n (div f x z)
div_within f {n} {x} N h (some m d k) i =
    let one_le = one_den m d i in
    rounds_held f (div f x (fin false m d)) (plus x * down d) (less x * down d) (m * up d * den x) n (mul-pos (mul-pos k (up_pos d)) (den_pos x)) (held_whole f n N)
    (go (plus x) (den x) (down d) (m * up d) _ (le_trans (plus-num x) h.small) one_le)
    (go (less x) (den x) (down d) (m * up d) _ (le_trans (less_num x) h.small) one_le)
    (div_is f x m d h.is_finite k)
  where
    go : (p c b d o : ℕ) → p ≤ n * c → b ≤ d → p * b ≤ o + n * (d * c)
    go p c b d o h k = le_trans (mul-le-mul h k) (omega arith)
div_within f {n} {x} N h unbounded i = zero_within x h.is_finite
  where
    zero_within : (x : Float) → T (finite x) → Within n (div f x (inf false))
    zero_within nan p = absurd p
    zero_within (inf s) p = absurd p
    zero_within (fin s m e) p = unfold div in record { is_finite = tt; small = zero-le }

pub within_div : (f : Format) {n : ℕ} {x : Float} (z : Float) → n ≤ 2 ^ prec f → Within n x → T (le one z) → Within n (div f x z)
within_div f z N h i = div_within f N h (above z (above_one z i)) i

-- ---- in the order: between -n and n
pub int_within : (f : Format) (n : ℕ) → n ≤ 2 ^ prec f → Within n (of_int f (pos n))
int_within f n N = value_within n false (of_int f (pos n)) (int_exact f n N)

le_value : {n : ℕ} {x : Float} (t : Float) → Within n x → HasValue t false n 1 → T (le x t)
le_value nan h k = absurd k
le_value (inf s) h k = absurd k
le_value (fin true m e) h k = absurd (true≢false k.0)
le_value {n} {x} (fin false m e) h k =
    below→le x (fin false m e) h.is_finite tt (go (plus x) (less x) (den x) (m * up e) (down e) (le_trans (plus-num x) h.small) k.1)
  where
    go : (p o c a d : ℕ) → p ≤ n * c → a * 1 ≡ n * d → p * d + 0 * c ≤ a * c + o * d
    go p o c a d h k = omega (arith, mul-le-mul_right d h, mul-le-mul_right c (le_of_eq (sym k)))

pub within→le : (f : Format) {n : ℕ} {x : Float} → n ≤ 2 ^ prec f → Within n x → T (le x (of_int f (pos n)))
within→le f {n} N h = le_value (of_int f (pos n)) h (int_exact f n N)

pub within→ge : (f : Format) {n : ℕ} {x : Float} → n ≤ 2 ^ prec f → Within n x → T (le (neg (of_int f (pos n))) x)
within→ge f {n} {x} N h = rw (neg-neg x) at (neg-le (neg x) (of_int f (pos n)) (within→le f N (within_neg h)))

pub le→within : (f : Format) (n : ℕ) (x : Float) → n ≤ 2 ^ prec f → T (le nought x) → T (le x (of_int f (pos n))) → Within n x
le→within f n x N z h = le_within z h (int_within f n N)

pub between→within : (f : Format) (n : ℕ) (x : Float) → n ≤ 2 ^ prec f → T (le (neg (of_int f (pos n))) x) → T (le x (of_int f (pos n))) → Within n x
between→within f n x N g h = elim (total_le nought x tt (le-number_left x (of_int f (pos n)) h)) [
  | inl z ↦ le→within f n x N z h
  | inr z ↦ rw (neg-neg x) at (within_neg (le→within f n (neg x) N (neg_nonneg x z) (rw (neg-neg (of_int f (pos n))) at (neg-le (neg (of_int f (pos n))) x g))))
]
