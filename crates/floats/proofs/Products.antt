-- Products and quotients: a product does not turn on the order of its factors, and grows with one where the other is at least zero. A factor of at most one makes
-- nothing larger, and a square is at least zero. A quotient by what is above zero grows with what is divided, a divisor of one or more makes nothing larger, and
-- x / x is one. Infinities included, wherever the result is not a NaN. Assumes nothing.
use mathlib.Core.Path.{◌≡◌, refl, ap, ◌∙◌}
use Prim.Native.Nat.{ℕ, zero, suc, ◌+◌, ◌-◌, ◌*◌, ◌≤◌, ◌<◌}
use native.Mathlib.Nat.{mul_comm as nat_mul_comm, mul-pos, mul-le-mul_right, zero-lt-suc, lt_irrefl}
use native.Mathlib.Omega.{arith}
use mathlib.Core.Bool.{Bool, true, false, cond}
use lib.IntN.{ℤ, pos}
use lib.Dec.{T, eqb, eqb-suc-zero}
use lib.Pow.{pow_pos}
use lib.Ieee.{Float, nan, inf, fin, Format, up, down, unlike, round, mul, div, fits, lt, le}
use lib.Ieee.Fits.{up_pos, down_pos}
use lib.Ieee.Scale.{finite, round_same}
use lib.Ieee.Positive.{num, den, den_pos}
use Rattle.floats.proofs.Signed.{plus, less, le→below, Rounds, rounds_up, rounds_down, rounds_mono}
use Rattle.floats.proofs.Order.{number, nought, one, round_number, rounds_number, round_nonneg, le-number_right, bottom, top, refl_le, trans_le, lt_of_lt-le, zeros_le, NonNeg, clear, minus, endless, nonneg, nonneg_le, less_plus, Above, some, unbounded, above, Ordered, least, greatest, between, ordered, le-finite}
use Rattle.floats.proofs.Own.{round_own, own, nought-fits, one_fits}

-- ---- a product does not turn on the order of its factors
unlike_comm : (s t : Bool) → unlike s t ≡ unlike t s
unlike_comm false false = refl
unlike_comm false true = refl
unlike_comm true false = refl
unlike_comm true true = refl

pub mul_comm : (f : Format) (x y : Float) → mul f x y ≡ mul f y x
unfolding mul
mul_comm f nan nan = refl
mul_comm f nan (inf t) = refl
mul_comm f nan (fin t n d) = refl
mul_comm f (inf s) nan = refl
mul_comm f (inf s) (inf t) = ap inf (unlike_comm s t)
mul_comm f (inf s) (fin t n d) = ap (λ (b : Bool). cond (eqb n 0) nan (inf b)) (unlike_comm s t)
mul_comm f (fin s m e) nan = refl
mul_comm f (fin s m e) (inf t) = ap (λ (b : Bool). cond (eqb m 0) nan (inf b)) (unlike_comm s t)
mul_comm f (fin s m e) (fin t n d) =
    ap (λ (b : Bool). round f b (m * up e * (n * up d)) (down e * down d)) (unlike_comm s t)
    ∙ ap (λ (a : ℕ). round f (unlike t s) a (down e * down d)) (nat_mul_comm (m * up e) (n * up d))
    ∙ ap (λ (c : ℕ). round f (unlike t s) (n * up d * (m * up e)) c) (nat_mul_comm (down e) (down d))

-- ---- the product of two finite values
abbrev pub negative : Float → Bool
negative nan = false
negative (inf s) = s
negative (fin s m e) = s

pub mul-round : (f : Format) (x y : Float) → T (finite x) → T (finite y) → mul f x y ≡ round f (unlike (negative x) (negative y)) (num x * num y) (den x * den y)
unfolding mul
mul-round f nan y p q = absurd p
mul-round f (inf s) y p q = absurd p
mul-round f (fin s m e) nan p q = absurd q
mul-round f (fin s m e) (inf t) p q = absurd q
mul-round f (fin s m e) (fin t n d) p q = refl

pub mul-number : (f : Format) (x y : Float) → T (finite x) → T (finite y) → T (number (mul f x y))
mul-number f x y p q = rw (mul-round f x y p q) (round_number f (unlike (negative x) (negative y)) (num x * num y) (den x * den y))

-- by one that is at least zero, as a signed fraction rounded
nonneg_mul : (f : Format) (s : Bool) (m : ℕ) (e : ℤ) {z : Float} → NonNeg z → T (finite z) → Rounds f (mul f (fin s m e) z) (plus (fin s m e) * num z) (less (fin s m e) * num z) (down e * den z)
unfolding mul
nonneg_mul f false m e (clear n d) q = rounds_up f (down e * down d) (m * up e * (n * up d)) (m * up e * (n * up d)) (0 * (n * up d)) (omega arith)
nonneg_mul f true m e (clear n d) q = rounds_down f (down e * down d) (m * up e * (n * up d)) (0 * (n * up d)) (m * up e * (n * up d)) (omega arith)
nonneg_mul f false m e (minus d) q = rounds_down f (down e * down d) (m * up e * (0 * up d)) (m * up e * (0 * up d)) (0 * (0 * up d)) (omega arith)
nonneg_mul f true m e (minus d) q = rounds_up f (down e * down d) (m * up e * (0 * up d)) (0 * (0 * up d)) (m * up e * (0 * up d)) (omega arith)
nonneg_mul f s m e endless q = absurd q

pub mul_is : (f : Format) (x z : Float) → T (finite x) → T (finite z) → T (le nought z) → Rounds f (mul f x z) (plus x * num z) (less x * num z) (den x * den z)
mul_is f nan z p q h = absurd p
mul_is f (inf s) z p q h = absurd p
mul_is f (fin s m e) z p q h = nonneg_mul f s m e (nonneg z h) q

-- ---- a product with an infinity, where it is a number
unlike-false : (s : Bool) → unlike s false ≡ s
unlike-false false = refl
unlike-false true = refl

inf-mul : (f : Format) (s : Bool) {z : Float} → NonNeg z → T (number (mul f (inf s) z)) → mul f (inf s) z ≡ inf s
unfolding mul
inf-mul f s (clear n d) h = go (eqb n 0) h
  where
    go : (b : Bool) → T (number (cond b nan (inf (unlike s false)))) → cond b nan (inf (unlike s false)) ≡ inf s
    go true h = absurd h
    go false h = ap inf (unlike-false s)
inf-mul f s (minus d) h = absurd h
inf-mul f s endless h = ap inf (unlike-false s)

mul-inf : (f : Format) (s : Bool) (m : ℕ) (e : ℤ) → T (number (mul f (fin s m e) (inf false))) → (0 < m) × (mul f (fin s m e) (inf false) ≡ inf s)
unfolding mul
mul-inf f s zero e h = absurd h
mul-inf f s (suc m) e h = (zero-lt-suc m, rw (eqb-suc-zero m) (ap inf (unlike-false s)))

-- ---- a product grows with a factor, where the other is at least zero
scaled : (p n c q m d a b : ℕ) → p * d + m * c ≤ q * c + n * d → p * a * (d * b) + m * a * (c * b) ≤ q * a * (c * b) + n * a * (d * b)
scaled p n c q m d a b h = omega (arith, mul-le-mul_right (a * b) h)

mul_mono_finite : (f : Format) (x y z : Float) → T (finite x) → T (finite y) → T (finite z) → T (le nought z) → T (le x y) → T (le (mul f x z) (mul f y z))
mul_mono_finite f x y z p q r k h =
    rounds_mono f (mul f x z) (mul f y z) _ _ (den x * den z) _ _ (den y * den z) (mul-pos (den_pos x) (den_pos z)) (mul-pos (den_pos y) (den_pos z)) (mul_is f x z p r k) (mul_is f y z q r k)
    (scaled (plus x) (less x) (den x) (plus y) (less y) (den y) (num z) (den z) (le→below x y p q h))

mul_mono_inf : (f : Format) (s : Bool) (m : ℕ) (e : ℤ) (t : Bool) (n : ℕ) (d : ℤ) → T (le (fin s m e) (fin t n d)) → T (number (mul f (fin s m e) (inf false))) → T (number (mul f (fin t n d) (inf false)))
    → T (le (mul f (fin s m e) (inf false)) (mul f (fin t n d) (inf false)))
mul_mono_inf f true m e t n d h p q = rw (mul-inf f true m e p).1 (bottom (mul f (fin t n d) (inf false)) q)
mul_mono_inf f false m e false n d h p q = rw (mul-inf f false n d q).1 (top (mul f (fin false m e) (inf false)) p)
mul_mono_inf f false m e true n d h p q = absurd (never (m * up e * down d) (n * up d * down e) (down e) (down d) (mul-pos (mul-pos (mul-inf f false m e p).0 (up_pos e)) (down_pos d)) (le→below (fin false m e) (fin true n d) tt tt h))
  where
    never : (a b c d : ℕ) → 0 < a → a + b ≤ 0 * c + 0 * d → ⊥
    never a b c d h k = omega arith

mul_mono_at : (f : Format) {x y z : Float} → Ordered x y → NonNeg z → T (number (mul f x z)) → T (number (mul f y z)) → T (le (mul f x z) (mul f y z))
mul_mono_at f (least y i) k p q = rw (inf-mul f true k p) (bottom _ q)
mul_mono_at f (greatest x i) k p q = rw (inf-mul f false k q) (top _ p)
mul_mono_at f (between s m e t n d h) (clear o g) p q = mul_mono_finite f (fin s m e) (fin t n d) (fin false o g) tt tt tt (nonneg_le (clear o g)) h
mul_mono_at f (between s m e t n d h) (minus g) p q = mul_mono_finite f (fin s m e) (fin t n d) (fin true 0 g) tt tt tt (nonneg_le (minus g)) h
mul_mono_at f (between s m e t n d h) endless p q = mul_mono_inf f s m e t n d h p q

pub mul_mono : (f : Format) (x y z : Float) → T (le nought z) → T (number (mul f x z)) → T (number (mul f y z)) → T (le x y) → T (le (mul f x z) (mul f y z))
mul_mono f x y z k p q h = mul_mono_at f (ordered x y h) (nonneg z k) p q

pub mul_mono_right : (f : Format) (z x y : Float) → T (le nought z) → T (number (mul f z x)) → T (number (mul f z y)) → T (le x y) → T (le (mul f z x) (mul f z y))
mul_mono_right f z x y k p q h = rw (mul_comm f z x, mul_comm f z y) (mul_mono f x y z k (rw (mul_comm f z x) at p) (rw (mul_comm f z y) at q) h)

-- ---- products of what is at least zero, and squares
mul_nonneg_finite : (f : Format) (x y : Float) → T (finite x) → T (finite y) → T (le nought x) → T (le nought y) → T (le nought (mul f x y))
mul_nonneg_finite f x y p q h k =
    rounds_mono f nought (mul f x y) 0 0 1 _ _ (den x * den y) (pow_pos 0) (mul-pos (den_pos x) (den_pos y)) (own f nought (nought-fits f) tt) (mul_is f x y p q k)
    (go (plus x) (less x) (den x) (num y) (den y) (less_plus x p h))
  where
    go : (p n c a e : ℕ) → n ≤ p → 0 * (c * e) + n * a * 1 ≤ p * a * 1 + 0 * (c * e)
    go p n c a e h = omega (arith, mul-le-mul_right a h)

inf-mul_nonneg : (f : Format) {y : Float} → NonNeg y → T (number (mul f (inf false) y)) → T (le nought (mul f (inf false) y))
inf-mul_nonneg f k r = rw (inf-mul f false k r) (top nought tt)

nonneg_mul_nonneg : (f : Format) {x y : Float} → NonNeg x → NonNeg y → T (number (mul f x y)) → T (le nought (mul f x y))
nonneg_mul_nonneg f endless k r = inf-mul_nonneg f k r
nonneg_mul_nonneg f (clear m e) endless r = rw mul_comm (inf-mul_nonneg f (clear m e) (rw mul_comm at r))
nonneg_mul_nonneg f (minus e) endless r = rw mul_comm (inf-mul_nonneg f (minus e) (rw mul_comm at r))
nonneg_mul_nonneg f (clear m e) (clear n d) r = mul_nonneg_finite f _ _ tt tt (nonneg_le (clear m e)) (nonneg_le (clear n d))
nonneg_mul_nonneg f (clear m e) (minus d) r = mul_nonneg_finite f _ _ tt tt (nonneg_le (clear m e)) (nonneg_le (minus d))
nonneg_mul_nonneg f (minus e) (clear n d) r = mul_nonneg_finite f _ _ tt tt (nonneg_le (minus e)) (nonneg_le (clear n d))
nonneg_mul_nonneg f (minus e) (minus d) r = mul_nonneg_finite f _ _ tt tt (nonneg_le (minus e)) (nonneg_le (minus d))

pub mul_nonneg : (f : Format) (x y : Float) → T (le nought x) → T (le nought y) → T (number (mul f x y)) → T (le nought (mul f x y))
mul_nonneg f x y h k r = nonneg_mul_nonneg f (nonneg x h) (nonneg y k) r

pub square_nonneg : (f : Format) (x : Float) → T (number x) → T (le nought (mul f x x))
unfolding mul
square_nonneg f nan p = absurd p
square_nonneg f (inf false) p = top nought tt
square_nonneg f (inf true) p = top nought tt
square_nonneg f (fin false m e) p = round_nonneg f (m * up e * (m * up e)) (down e * down e)
square_nonneg f (fin true m e) p = round_nonneg f (m * up e * (m * up e)) (down e * down e)

pub square_number : (f : Format) (x : Float) → T (number x) → T (number (mul f x x))
square_number f x p = le-number_right nought (mul f x x) (square_nonneg f x p)

-- ---- a factor of at most one makes nothing larger
-- (p - n) * a * c ≤ (p - n) * e * c
part : (p n c a e : ℕ) → n ≤ p → a ≤ e → p * a * c + n * (c * e) ≤ p * (c * e) + n * a * c
part p n c a e h k = go (p - n) (join p n h)
  where
    join : (p n : ℕ) → n ≤ p → p ≡ n + (p - n)
    join p n h = omega arith

    go : (u : ℕ) → p ≡ n + u → p * a * c + n * (c * e) ≤ p * (c * e) + n * a * c
    go u i = omega (arith, ap (λ (z : ℕ). z * (a * c)) i, ap (λ (z : ℕ). z * (c * e)) i, mul-le-mul_right (u * c) k)

pub unit_num : {z : Float} → NonNeg z → T (finite z) → T (le z one) → num z ≤ den z
unit_num (clear n d) q h = go (n * up d) (down d) (le→below (fin false n d) one tt tt h)
  where
    go : (a d : ℕ) → a * 1 + 0 * d ≤ 1 * d + 0 * 1 → a ≤ d
    go a d h = omega arith
unit_num (minus d) q h = omega arith
unit_num endless q h = absurd q

mul-le-finite : (f : Format) (x z : Float) → T (fits f x) → T (finite x) → T (le nought x) → T (finite z) → T (le nought z) → T (le z one) → T (le (mul f x z) x)
mul-le-finite f x z F p h q k i =
    rounds_mono f (mul f x z) x _ _ (den x * den z) (plus x) (less x) (den x) (mul-pos (den_pos x) (den_pos z)) (den_pos x) (mul_is f x z p q k) (own f x F p)
    (part (plus x) (less x) (den x) (num z) (den z) (less_plus x p h) (unit_num (nonneg z k) q i))

pub mul-le : (f : Format) (x z : Float) → T (fits f x) → T (le nought x) → T (le nought z) → T (le z one) → T (number (mul f x z)) → T (le (mul f x z) x)
mul-le f nan z F h k i r = unfold mul in absurd r
mul-le f (inf true) z F h k i r = unfold le in absurd h
mul-le f (inf false) z F h k i r = rw (inf-mul f false (nonneg z k) r) (refl_le (inf false) tt)
mul-le f (fin s m e) z F h k i r = mul-le-finite f (fin s m e) z F tt h (le-finite z one k i tt) k i

-- ---- a quotient by what is above zero
no_zero : (n : ℕ) → 0 < n → eqb n 0 ≡ false
no_zero zero h = absurd (lt_irrefl 0 h)
no_zero (suc n) h = eqb-suc-zero n

pub div_is : (f : Format) (x : Float) (n : ℕ) (d : ℤ) → T (finite x) → 0 < n → Rounds f (div f x (fin false n d)) (plus x * down d) (less x * down d) (n * up d * den x)
unfolding div
div_is f nan n d p h = absurd p
div_is f (inf s) n d p h = absurd p
div_is f (fin false m e) n d p h = rw (no_zero n h) (rounds_up f (n * up d * down e) (m * up e * down d) (m * up e * down d) (0 * down d) (omega arith))
div_is f (fin true m e) n d p h = rw (no_zero n h) (rounds_down f (n * up d * down e) (m * up e * down d) (0 * down d) (m * up e * down d) (omega arith))

above_number : (f : Format) (s : Bool) (m : ℕ) (e : ℤ) {z : Float} → Above z → T (number (div f (fin s m e) z))
above_number f s m e (some n d h) = rounds_number f _ _ _ _ (div_is f (fin s m e) n d tt h)
above_number f s m e unbounded = unfold div in tt

pub div-number : (f : Format) (x z : Float) → T (finite x) → T (lt nought z) → T (number (div f x z))
div-number f nan z p h = absurd p
div-number f (inf s) z p h = absurd p
div-number f (fin s m e) z p h = above_number f s m e (above z h)

inf-div : (f : Format) (s : Bool) {z : Float} → Above z → T (number (div f (inf s) z)) → div f (inf s) z ≡ inf s
unfolding div
inf-div f s (some n d h) p = ap inf (unlike-false s)
inf-div f s unbounded p = absurd p

-- ---- a quotient grows with what is divided
divided : (p n c q m d a b : ℕ) → p * d + m * c ≤ q * c + n * d → p * b * (a * d) + m * b * (a * c) ≤ q * b * (a * c) + n * b * (a * d)
divided p n c q m d a b h = omega (arith, mul-le-mul_right (a * b) h)

div_mono_finite : (f : Format) (x y : Float) (o : ℕ) (g : ℤ) → T (finite x) → T (finite y) → 0 < o → T (le x y) → T (le (div f x (fin false o g)) (div f y (fin false o g)))
div_mono_finite f x y o g p q r h =
    let a = mul-pos r (up_pos g) in
    rounds_mono f (div f x (fin false o g)) (div f y (fin false o g)) _ _ (o * up g * den x) _ _ (o * up g * den y) (mul-pos a (den_pos x)) (mul-pos a (den_pos y)) (div_is f x o g p r) (div_is f y o g q r)
    (divided (plus x) (less x) (den x) (plus y) (less y) (den y) (o * up g) (down g) (le→below x y p q h))

div_mono_at : (f : Format) {x y z : Float} → Ordered x y → Above z → T (number (div f x z)) → T (number (div f y z)) → T (le (div f x z) (div f y z))
div_mono_at f (least y i) k p q = rw (inf-div f true k p) (bottom _ q)
div_mono_at f (greatest x i) k p q = rw (inf-div f false k q) (top _ p)
div_mono_at f (between s m e t n d h) (some o g r) p q = div_mono_finite f (fin s m e) (fin t n d) o g tt tt r h
div_mono_at f (between s m e t n d h) unbounded p q = unfold div in zeros_le (unlike s false) (unlike t false) (pos 0) (pos 0)

pub div_mono : (f : Format) (x y z : Float) → T (lt nought z) → T (number (div f x z)) → T (number (div f y z)) → T (le x y) → T (le (div f x z) (div f y z))
div_mono f x y z k p q h = div_mono_at f (ordered x y h) (above z k) p q

-- ---- a quotient of what is at least zero
div_nonneg_finite : (f : Format) (x : Float) (n : ℕ) (d : ℤ) → T (finite x) → T (le nought x) → 0 < n → T (le nought (div f x (fin false n d)))
div_nonneg_finite f x n d p h k =
    rounds_mono f nought (div f x (fin false n d)) 0 0 1 _ _ (n * up d * den x) (pow_pos 0) (mul-pos (mul-pos k (up_pos d)) (den_pos x)) (own f nought (nought-fits f) tt) (div_is f x n d p k)
    (go (plus x) (less x) (down d) (n * up d * den x) (less_plus x p h))
  where
    go : (p n b c : ℕ) → n ≤ p → 0 * c + n * b * 1 ≤ p * b * 1 + 0 * c
    go p n b c h = omega (arith, mul-le-mul_right b h)

div_nonneg_at : (f : Format) (s : Bool) (m : ℕ) (e : ℤ) {z : Float} → T (le nought (fin s m e)) → Above z → T (le nought (div f (fin s m e) z))
div_nonneg_at f s m e h (some n d k) = div_nonneg_finite f (fin s m e) n d tt h k
div_nonneg_at f s m e h unbounded = unfold div in zeros_le false (unlike s false) (pos 0) (pos 0)

pub div_nonneg : (f : Format) (x z : Float) → T (le nought x) → T (lt nought z) → T (number (div f x z)) → T (le nought (div f x z))
div_nonneg f nan z h k r = unfold le in absurd h
div_nonneg f (inf true) z h k r = unfold le in absurd h
div_nonneg f (inf false) z h k r = rw (inf-div f false (above z k) r) (top nought tt)
div_nonneg f (fin s m e) z h k r = div_nonneg_at f s m e h (above z k)

-- ---- a divisor of one or more makes nothing larger
pub one_pos : T (lt nought one)
unfolding lt
one_pos = tt

pub above_one : (z : Float) → T (le one z) → T (lt nought z)
above_one z h = lt_of_lt-le nought one z one_pos h

pub one_den : (n : ℕ) (d : ℤ) → T (le one (fin false n d)) → down d ≤ n * up d
one_den n d h = go (n * up d) (down d) (le→below one (fin false n d) tt tt h)
  where
    go : (a d : ℕ) → 1 * d + 0 * 1 ≤ a * 1 + 0 * d → d ≤ a
    go a d h = omega arith

div-le-finite : (f : Format) (x : Float) (n : ℕ) (d : ℤ) → T (fits f x) → T (finite x) → T (le nought x) → 0 < n → T (le one (fin false n d)) → T (le (div f x (fin false n d)) x)
div-le-finite f x n d F p h k i =
    rounds_mono f (div f x (fin false n d)) x _ _ (n * up d * den x) (plus x) (less x) (den x) (mul-pos (mul-pos k (up_pos d)) (den_pos x)) (den_pos x) (div_is f x n d p k) (own f x F p)
    (go (plus x) (less x) (den x) (down d) (n * up d) (part (plus x) (less x) (den x) (down d) (n * up d) (less_plus x p h) (one_den n d i)))
  where
    go : (p n c a e : ℕ) → p * a * c + n * (c * e) ≤ p * (c * e) + n * a * c → p * a * c + n * (e * c) ≤ p * (e * c) + n * a * c
    go p n c a e h = omega arith

div-le_at : (f : Format) (s : Bool) (m : ℕ) (e : ℤ) {z : Float} → T (fits f (fin s m e)) → T (le nought (fin s m e)) → Above z → T (le one z) → T (le (div f (fin s m e) z) (fin s m e))
div-le_at f s m e F h (some n d k) i = div-le-finite f (fin s m e) n d F tt h k i
div-le_at f s m e F h unbounded i = unfold div in trans_le (fin (unlike s false) 0 (pos 0)) nought (fin s m e) (zeros_le (unlike s false) false (pos 0) (pos 0)) h

pub div-le : (f : Format) (x z : Float) → T (fits f x) → T (le nought x) → T (le one z) → T (number (div f x z)) → T (le (div f x z) x)
div-le f nan z F h i r = unfold div in absurd r
div-le f (inf true) z F h i r = unfold le in absurd h
div-le f (inf false) z F h i r = rw (inf-div f false (above z (above_one z i)) r) (refl_le (inf false) tt)
div-le f (fin s m e) z F h i r = div-le_at f s m e F h (above z (above_one z i)) i

-- ---- x / x is one, and a part of x by x is in zero to one
self_div : (f : Format) {x : Float} → Above x → T (finite x) → div f x x ≡ one
unfolding div
self_div f (some n d h) p =
    rw (no_zero n h)
    (round_same f false (n * up d * down d) (n * up d * down d) 1 1 (mul-pos (mul-pos h (up_pos d)) (down_pos d)) (pow_pos 0) (nat_mul_comm (n * up d * down d) 1) ∙ round_own f false 1 (pos 0) (one_fits f))
self_div f unbounded p = absurd p

pub div_self : (f : Format) (x : Float) → T (finite x) → T (lt nought x) → div f x x ≡ one
div_self f x p h = self_div f (above x h) p

pub div_unit_nonneg : (f : Format) (x y : Float) → T (le nought x) → T (le x y) → T (lt nought y) → T (finite y) → T (le nought (div f x y))
div_unit_nonneg f x y h k i q = div_nonneg f x y h i (div-number f x y (le-finite x y h k q) i)

pub div_unit_le : (f : Format) (x y : Float) → T (le nought x) → T (le x y) → T (lt nought y) → T (finite y) → T (le (div f x y) one)
div_unit_le f x y h k i q = rw (div_self f y q i) at (div_mono f x y y i (div-number f x y (le-finite x y h k q) i) (div-number f y y q i) k)
