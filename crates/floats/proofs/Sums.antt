-- Sums and differences: a sum does not turn on the order of its parts, grows with each of them, and is at least its first part where the second is at least zero.
-- A difference grows with what it is taken from and falls with what is taken. Infinities included, wherever the result is not a NaN.
-- What is below a value that fits differs from it by more than zero. Assumes nothing.
use mathlib.Core.Path.{◌≡◌, refl, sym, ap, ◌∙◌}
use Prim.Native.Nat.{ℕ, ◌+◌, ◌-◌, ◌*◌, ◌^◌, ◌≤◌, ◌<◌}
use native.Mathlib.Nat.{add_comm as nat_add_comm, mul_comm as nat_mul_comm, mul-pos, mul-le-mul_right, mul-lt-mul_of_pos_right, lt_of_mul-lt-mul_right}
use native.Mathlib.Omega.{arith}
use mathlib.Core.Bool.{Bool, true, false, not, ◌&&◌, beq, cond}
use lib.Dec.{T, ltb, ltb→lt, nltb→le}
use lib.Pow.{pow_pos}
use lib.Ieee.{Float, nan, inf, fin, Format, binary32, binary64, low, up, down, unlike, round, neg, add, sum, sub, fits, lt, le}
use lib.Ieee.Scale.{finite}
use lib.Ieee.Positive.{den, den_pos}
use Rattle.floats.proofs.Signed.{plus, less, lt→under, le→below, Rounds, rounds_up, rounds_down, rounds_mono}
use Rattle.floats.proofs.Order.{number, nought, one, neg-le, neg-neg, finite_number, rounds_number, le-number_left, le-number_right, bottom, top, refl_le, lt-le, lt_of_lt-le, lt_of_le-lt, NonNeg, clear, minus, endless, nonneg, nonneg_le, neg_nonneg, less_plus, Ordered, least, greatest, between, ordered}
use Rattle.floats.proofs.Own.{own, counted, nought-fits, one_fits}

-- ---- a sum does not turn on the order of its parts
opposite_comm : (f : Format) (a b c : ℕ) → sum f false a true b c ≡ sum f true b false a c
unfolding sum
opposite_comm f a b c = go (ltb a b) (ltb b a) (ltb→lt a b) (nltb→le a b) (ltb→lt b a) (nltb→le b a)
  where
    never : a < b → b < a → ⊥
    never h k = omega arith

    alike : b ≤ a → a ≤ b → a - b ≡ b - a
    alike h k = omega arith

    go : (x y : Bool) → (T x → a < b) → (T (not x) → b ≤ a) → (T y → b < a) → (T (not y) → a ≤ b) → cond x (round f true (b - a) c) (round f false (a - b) c) ≡ cond y (round f false (a - b) c) (round f (true && x) (b - a) c)
    go true true h k h' k' = absurd (never (h tt) (h' tt))
    go true false h k h' k' = refl
    go false true h k h' k' = refl
    go false false h k h' k' = ap (λ (z : ℕ). round f false z c) (alike (k tt) (k' tt))

sum_comm : (f : Format) (s : Bool) (a : ℕ) (t : Bool) (b c : ℕ) → sum f s a t b c ≡ sum f t b s a c
unfolding sum
sum_comm f false a false b c = ap (λ (z : ℕ). round f false z c) (nat_add_comm a b)
sum_comm f true a true b c = ap (λ (z : ℕ). round f true z c) (nat_add_comm a b)
sum_comm f false a true b c = opposite_comm f a b c
sum_comm f true a false b c = sym (opposite_comm f b a c)

inf_comm : (s t : Bool) → cond (beq s t) (inf s) nan ≡ cond (beq t s) (inf t) nan
inf_comm false false = refl
inf_comm false true = refl
inf_comm true false = refl
inf_comm true true = refl

pub add_comm : (f : Format) (x y : Float) → add f x y ≡ add f y x
unfolding add
add_comm f nan nan = refl
add_comm f nan (inf t) = refl
add_comm f nan (fin t n d) = refl
add_comm f (inf s) nan = refl
add_comm f (inf s) (inf t) = inf_comm s t
add_comm f (inf s) (fin t n d) = refl
add_comm f (fin s m e) nan = refl
add_comm f (fin s m e) (inf t) = refl
add_comm f (fin s m e) (fin t n d) = rw (nat_mul_comm (down e) (down d)) (sum_comm f s (m * up e * down d) t (n * up d * down e) (down d * down e))

-- ---- the sum of two finite values, as a signed fraction rounded
abbrev up_of : Bool → ℕ → ℕ
up_of false a = a
up_of true a = 0

abbrev down_of : Bool → ℕ → ℕ
down_of false a = 0
down_of true a = a

sum_is : (f : Format) (s : Bool) (a : ℕ) (t : Bool) (b c p n : ℕ) → p + (down_of s a + down_of t b) ≡ n + (up_of s a + up_of t b) → Rounds f (sum f s a t b c) p n c
unfolding sum
sum_is f false a false b c p n i = rounds_up f c (a + b) p n (omega arith)
sum_is f true a true b c p n i = rounds_down f c (a + b) p n (omega arith)
sum_is f false a true b c p n i = go (ltb a b) (ltb→lt a b) (nltb→le a b)
  where
    go : (x : Bool) → (T x → a < b) → (T (not x) → b ≤ a) → Rounds f (cond x (round f true (b - a) c) (round f false (a - b) c)) p n c
    go true h k = let l = h tt in rounds_down f c (b - a) p n (omega arith)
    go false h k = let l = k tt in rounds_up f c (a - b) p n (omega arith)
sum_is f true a false b c p n i = go (ltb a b) (ltb b a) (ltb→lt a b) (nltb→le a b) (ltb→lt b a) (nltb→le b a)
  where
    go : (x y : Bool) → (T x → a < b) → (T (not x) → b ≤ a) → (T y → b < a) → (T (not y) → a ≤ b) → Rounds f (cond x (round f false (b - a) c) (round f (true && y) (a - b) c)) p n c
    go true y h k h' k' = let l = h tt in rounds_up f c (b - a) p n (omega arith)
    go false true h k h' k' = let l = h' tt in rounds_down f c (a - b) p n (omega arith)
    go false false h k h' k' = let l = k tt in let l' = k' tt in rounds_up f c (a - b) p n (omega arith)

pub add_is : (f : Format) (x y : Float) → T (finite x) → T (finite y) → Rounds f (add f x y) (plus x * den y + plus y * den x) (less x * den y + less y * den x) (den x * den y)
unfolding add
add_is f nan y p q = absurd p
add_is f (inf s) y p q = absurd p
add_is f (fin s m e) nan p q = absurd q
add_is f (fin s m e) (inf t) p q = absurd q
add_is f (fin false m e) (fin false n d) p q = sum_is f false (m * up e * down d) false (n * up d * down e) (down e * down d) _ _ (omega arith)
add_is f (fin false m e) (fin true n d) p q = sum_is f false (m * up e * down d) true (n * up d * down e) (down e * down d) _ _ (omega arith)
add_is f (fin true m e) (fin false n d) p q = sum_is f true (m * up e * down d) false (n * up d * down e) (down e * down d) _ _ (omega arith)
add_is f (fin true m e) (fin true n d) p q = sum_is f true (m * up e * down d) true (n * up d * down e) (down e * down d) _ _ (omega arith)

-- the difference, likewise
pub sub_is : (f : Format) (x y : Float) → T (finite x) → T (finite y) → Rounds f (sub f x y) (plus x * den y + less y * den x) (less x * den y + plus y * den x) (den x * den y)
unfolding sub neg
sub_is f nan y p q = absurd p
sub_is f (inf s) y p q = absurd p
sub_is f (fin s m e) nan p q = absurd q
sub_is f (fin s m e) (inf t) p q = absurd q
sub_is f (fin s m e) (fin false n d) p q = add_is f (fin s m e) (fin true n d) tt tt
sub_is f (fin s m e) (fin true n d) p q = add_is f (fin s m e) (fin false n d) tt tt

-- ---- where a sum is a number: its parts are, and are not infinities of opposite signs
pub neg-finite : (x : Float) → T (finite x) → T (finite (neg x))
unfolding neg
neg-finite nan p = absurd p
neg-finite (inf s) p = absurd p
neg-finite (fin s m e) p = tt

pub neg-number : (x : Float) → T (number x) → T (number (neg x))
unfolding neg
neg-number nan p = absurd p
neg-number (inf s) p = tt
neg-number (fin s m e) p = tt

abbrev pub cancel : Float → Float → Bool
cancel nan y = false
cancel (inf s) nan = false
cancel (inf s) (inf t) = unlike s t
cancel (inf s) (fin t n d) = false
cancel (fin s m e) y = false

pub add_defined : (f : Format) (x y : Float) → T (number x) → T (number y) → T (not (cancel x y)) → T (number (add f x y))
unfolding add
add_defined f nan y p q h = absurd p
add_defined f (inf s) nan p q h = absurd q
add_defined f (inf false) (inf false) p q h = tt
add_defined f (inf false) (inf true) p q h = absurd h
add_defined f (inf true) (inf false) p q h = absurd h
add_defined f (inf true) (inf true) p q h = tt
add_defined f (inf s) (fin t n d) p q h = tt
add_defined f (fin s m e) nan p q h = absurd q
add_defined f (fin s m e) (inf t) p q h = tt
add_defined f (fin s m e) (fin t n d) p q h = rounds_number f (add f (fin s m e) (fin t n d)) _ _ _ (add_is f (fin s m e) (fin t n d) tt tt)

pub add-number_left : (f : Format) (x y : Float) → T (finite x) → T (number y) → T (number (add f x y))
add-number_left f nan y p q = absurd p
add-number_left f (inf s) y p q = absurd p
add-number_left f (fin s m e) y p q = add_defined f (fin s m e) y tt q tt

pub add-number_right : (f : Format) (x y : Float) → T (number x) → T (finite y) → T (number (add f x y))
add-number_right f x y p q = rw (add_comm f x y) (add-number_left f y x q p)

pub add-number : (f : Format) (x y : Float) → T (finite x) → T (finite y) → T (number (add f x y))
add-number f x y p q = add-number_left f x y p (finite_number y q)

pub sub-number_left : (f : Format) (x y : Float) → T (finite x) → T (number y) → T (number (sub f x y))
unfolding sub
sub-number_left f x y p q = add-number_left f x (neg y) p (neg-number y q)

pub sub-number_right : (f : Format) (x y : Float) → T (number x) → T (finite y) → T (number (sub f x y))
unfolding sub
sub-number_right f x y p q = add-number_right f x (neg y) p (neg-finite y q)

pub sub_number : (f : Format) (x y : Float) → T (finite x) → T (finite y) → T (number (sub f x y))
sub_number f x y p q = sub-number_left f x y p (finite_number y q)

-- ---- a sum and a difference with an infinity, where they are numbers
inf-add : (f : Format) (s : Bool) (z : Float) → T (number (add f (inf s) z)) → add f (inf s) z ≡ inf s
unfolding add
inf-add f s nan h = absurd h
inf-add f false (inf false) h = refl
inf-add f false (inf true) h = absurd h
inf-add f true (inf false) h = absurd h
inf-add f true (inf true) h = refl
inf-add f s (fin u o g) h = refl

inf-sub : (f : Format) (s : Bool) (z : Float) → T (number (sub f (inf s) z)) → sub f (inf s) z ≡ inf s
unfolding sub
inf-sub f s z h = inf-add f s (neg z) h

sub-inf : (f : Format) (s : Bool) (z : Float) → T (number (sub f z (inf s))) → sub f z (inf s) ≡ inf (not s)
unfolding sub neg
sub-inf f s z h = add_comm f z (inf (not s)) ∙ inf-add f (not s) z (rw (add_comm f z (inf (not s))) at h)

-- ---- a sum grows with each of its parts
grown : (p n c q m d r o e : ℕ) → p * d + m * c ≤ q * c + n * d → (p * e + r * c) * (d * e) + (m * e + o * d) * (c * e) ≤ (q * e + r * d) * (c * e) + (n * e + o * c) * (d * e)
grown p n c q m d r o e h = omega (arith, mul-le-mul_right (e * e) h)

add_mono_finite : (f : Format) (x y z : Float) → T (finite x) → T (finite y) → T (finite z) → T (le x y) → T (le (add f x z) (add f y z))
add_mono_finite f x y z p q r h =
    rounds_mono f (add f x z) (add f y z) _ _ (den x * den z) _ _ (den y * den z) (mul-pos (den_pos x) (den_pos z)) (mul-pos (den_pos y) (den_pos z)) (add_is f x z p r) (add_is f y z q r)
    (grown (plus x) (less x) (den x) (plus y) (less y) (den y) (plus z) (less z) (den z) (le→below x y p q h))

add_mono_at : (f : Format) {x y : Float} (z : Float) → Ordered x y → T (number (add f x z)) → T (number (add f y z)) → T (le (add f x z) (add f y z))
add_mono_at f z (least y i) p q = rw (inf-add f true z p) (bottom (add f y z) q)
add_mono_at f z (greatest x i) p q = rw (inf-add f false z q) (top (add f x z) p)
add_mono_at f nan (between s m e t n d h) p q = unfold add in absurd p
add_mono_at f (inf u) (between s m e t n d h) p q = unfold add in refl_le (inf u) tt
add_mono_at f (fin u o g) (between s m e t n d h) p q = add_mono_finite f (fin s m e) (fin t n d) (fin u o g) tt tt tt h

pub add_mono : (f : Format) (x y z : Float) → T (number (add f x z)) → T (number (add f y z)) → T (le x y) → T (le (add f x z) (add f y z))
add_mono f x y z p q h = add_mono_at f z (ordered x y h) p q

pub add_mono_right : (f : Format) (z x y : Float) → T (number (add f z x)) → T (number (add f z y)) → T (le x y) → T (le (add f z x) (add f z y))
add_mono_right f z x y p q h = rw (add_comm f z x, add_comm f z y) (add_mono f x y z (rw (add_comm f z x) at p) (rw (add_comm f z y) at q) h)

-- ---- a difference grows with what it is taken from, and falls with what is taken
pub sub_mono : (f : Format) (x y z : Float) → T (number (sub f x z)) → T (number (sub f y z)) → T (le x y) → T (le (sub f x z) (sub f y z))
unfolding sub
sub_mono f x y z p q h = add_mono f x y (neg z) p q h

pub sub_anti : (f : Format) (z x y : Float) → T (number (sub f z x)) → T (number (sub f z y)) → T (le x y) → T (le (sub f z y) (sub f z x))
unfolding sub
sub_anti f z x y p q h = add_mono_right f z (neg y) (neg x) q p (neg-le x y h)

-- ---- with what is at least zero
pub add_up : (f : Format) (x y : Float) → T (fits f x) → T (le nought y) → T (number (add f x y)) → T (le x (add f x y))
add_up f nan y F h p = unfold add in absurd p
add_up f (inf s) y F h p = rw (inf-add f s y p) (refl_le (inf s) tt)
add_up f (fin s m e) nan F h p = unfold add in absurd p
add_up f (fin s m e) (inf true) F h p = unfold le in absurd h
add_up f (fin s m e) (inf false) F h p = unfold add in top (fin s m e) tt
add_up f (fin s m e) (fin t n d) F h p =
    let x = fin s m e in
    let y = fin t n d in
    rounds_mono f x (add f x y) (plus x) (less x) (den x) _ _ (den x * den y) (den_pos x) (mul-pos (den_pos x) (den_pos y)) (own f x F tt) (add_is f x y tt tt)
    (more (plus x) (less x) (den x) (plus y) (less y) (den y) (less_plus y tt h))
  where
    more : (p n c r o e : ℕ) → o ≤ r → p * (c * e) + (n * e + o * c) * c ≤ (p * e + r * c) * c + n * (c * e)
    more p n c r o e h = omega (arith, mul-le-mul_right (c * c) h)

add_nonneg_finite : (f : Format) (x y : Float) → T (finite x) → T (finite y) → T (le nought x) → T (le nought y) → T (le nought (add f x y))
add_nonneg_finite f x y p q h k =
    rounds_mono f nought (add f x y) 0 0 1 _ _ (den x * den y) (pow_pos 0) (mul-pos (den_pos x) (den_pos y)) (own f nought (nought-fits f) tt) (add_is f x y p q)
    (go (plus x) (less x) (den x) (plus y) (less y) (den y) (less_plus x p h) (less_plus y q k))
  where
    go : (p n c r o e : ℕ) → n ≤ p → o ≤ r → 0 * (c * e) + (n * e + o * c) * 1 ≤ (p * e + r * c) * 1 + 0 * (c * e)
    go p n c r o e h k = omega (arith, mul-le-mul_right e h, mul-le-mul_right c k)

nonneg_add : (f : Format) {x y : Float} → NonNeg x → NonNeg y → T (le nought (add f x y))
unfolding add
nonneg_add f endless endless = top nought tt
nonneg_add f endless (clear n d) = top nought tt
nonneg_add f endless (minus d) = top nought tt
nonneg_add f (clear m e) endless = top nought tt
nonneg_add f (minus e) endless = top nought tt
nonneg_add f (clear m e) (clear n d) = add_nonneg_finite f _ _ tt tt (nonneg_le (clear m e)) (nonneg_le (clear n d))
nonneg_add f (clear m e) (minus d) = add_nonneg_finite f _ _ tt tt (nonneg_le (clear m e)) (nonneg_le (minus d))
nonneg_add f (minus e) (clear n d) = add_nonneg_finite f _ _ tt tt (nonneg_le (minus e)) (nonneg_le (clear n d))
nonneg_add f (minus e) (minus d) = add_nonneg_finite f _ _ tt tt (nonneg_le (minus e)) (nonneg_le (minus d))

pub add_nonneg : (f : Format) (x y : Float) → T (le nought x) → T (le nought y) → T (le nought (add f x y))
add_nonneg f x y h k = nonneg_add f (nonneg x h) (nonneg y k)

pub sub-le : (f : Format) (x y : Float) → T (fits f x) → T (le nought y) → T (number (sub f x y)) → T (le (sub f x y) x)
sub-le f nan y F h p = unfold sub add in absurd p
sub-le f (inf s) y F h p = rw (inf-sub f s y p) (refl_le (inf s) tt)
sub-le f (fin s m e) nan F h p = unfold sub add in absurd p
sub-le f (fin s m e) (inf true) F h p = unfold le in absurd h
sub-le f (fin s m e) (inf false) F h p = unfold sub add neg in bottom (fin s m e) tt
sub-le f (fin s m e) (fin t n d) F h p =
    let x = fin s m e in
    let y = fin t n d in
    rounds_mono f (sub f x y) x _ _ (den x * den y) (plus x) (less x) (den x) (mul-pos (den_pos x) (den_pos y)) (den_pos x) (sub_is f x y tt tt) (own f x F tt)
    (fewer (plus x) (less x) (den x) (plus y) (less y) (den y) (less_plus y tt h))
  where
    fewer : (p n c r o e : ℕ) → o ≤ r → (p * e + o * c) * c + n * (c * e) ≤ p * (c * e) + (n * e + r * c) * c
    fewer p n c r o e h = omega (arith, mul-le-mul_right (c * c) h)

pub add_down : (f : Format) (x y : Float) → T (fits f x) → T (le y nought) → T (number (add f x y)) → T (le (add f x y) x)
add_down f x y F h p = rw (minus_minus f x y) at (sub-le f x (neg y) F (neg_nonneg y h) (rw (minus_minus f x y) p))
  where
    minus_minus : (f : Format) (x y : Float) → sub f x (neg y) ≡ add f x y
    minus_minus f x y = unfold sub in ap (add f x) (neg-neg y)

-- ---- the difference of two values in order
sub_nonneg_finite : (f : Format) (x y : Float) → T (finite x) → T (finite y) → T (le x y) → T (le nought (sub f y x))
sub_nonneg_finite f x y p q h =
    rounds_mono f nought (sub f y x) 0 0 1 _ _ (den y * den x) (pow_pos 0) (mul-pos (den_pos y) (den_pos x)) (own f nought (nought-fits f) tt) (sub_is f y x q p)
    (go (plus x) (less x) (den x) (plus y) (less y) (den y) (le→below x y p q h))
  where
    go : (p n c q m d : ℕ) → p * d + m * c ≤ q * c + n * d → 0 * (d * c) + (m * c + p * d) * 1 ≤ (q * c + n * d) * 1 + 0 * (d * c)
    go p n c q m d h = omega arith

sub_nonneg_at : (f : Format) {x y : Float} → Ordered x y → T (number (sub f y x)) → T (le nought (sub f y x))
sub_nonneg_at f (least y i) r = rw (sub-inf f true y r) (top nought tt)
sub_nonneg_at f (greatest x i) r = rw (inf-sub f false x r) (top nought tt)
sub_nonneg_at f (between s m e t n d h) r = sub_nonneg_finite f (fin s m e) (fin t n d) tt tt h

pub sub_nonneg : (f : Format) (x y : Float) → T (number (sub f y x)) → T (le x y) → T (le nought (sub f y x))
sub_nonneg f x y r h = sub_nonneg_at f (ordered x y h) r

sub_nonpos_finite : (f : Format) (x y : Float) → T (finite x) → T (finite y) → T (le x y) → T (le (sub f x y) nought)
sub_nonpos_finite f x y p q h =
    rounds_mono f (sub f x y) nought _ _ (den x * den y) 0 0 1 (mul-pos (den_pos x) (den_pos y)) (pow_pos 0) (sub_is f x y p q) (own f nought (nought-fits f) tt)
    (go (plus x) (less x) (den x) (plus y) (less y) (den y) (le→below x y p q h))
  where
    go : (p n c q m d : ℕ) → p * d + m * c ≤ q * c + n * d → (p * d + m * c) * 1 + 0 * (c * d) ≤ 0 * (c * d) + (n * d + q * c) * 1
    go p n c q m d h = omega arith

sub_nonpos_at : (f : Format) {x y : Float} → Ordered x y → T (number (sub f x y)) → T (le (sub f x y) nought)
sub_nonpos_at f (least y i) r = rw (inf-sub f true y r) (bottom nought tt)
sub_nonpos_at f (greatest x i) r = rw (sub-inf f false x r) (bottom nought tt)
sub_nonpos_at f (between s m e t n d h) r = sub_nonpos_finite f (fin s m e) (fin t n d) tt tt h

pub sub_nonpos : (f : Format) (x y : Float) → T (number (sub f x y)) → T (le x y) → T (le (sub f x y) nought)
sub_nonpos f x y r h = sub_nonpos_at f (ordered x y h) r

-- ---- the difference of two values that fit is not lost: the smallest value is at most what is left
least_pos : (f : Format) → T (lt nought (round f false 1 (2 ^ low f)))
unfolding round lt
least_pos binary32 = tt
least_pos binary64 = tt

least-neg : (f : Format) → T (lt (round f true 1 (2 ^ low f)) nought)
unfolding round lt
least-neg binary32 = tt
least-neg binary64 = tt

gap : (f : Format) (x y : Float) → T (fits f x) → T (fits f y) → T (finite x) → T (finite y) → T (lt x y) → den x * den y + (plus x * den y + less y * den x) * 2 ^ low f ≤ (plus y * den x + less x * den y) * 2 ^ low f
gap f x y F G p q h =
    let u = counted f x F p in
    let v = counted f y G q in
    go (plus x) (less x) (den x) (plus y) (less y) (den y) (2 ^ low f) u.0 u.1 v.0 v.1 (pow_pos (low f)) u.2 u.3 v.2 v.3 (lt→under x y p q h)
  where
    go : (p n c q m d l P N Q M : ℕ) → 0 < l → p * l ≡ P * c → n * l ≡ N * c → q * l ≡ Q * d → m * l ≡ M * d → p * d + m * c < q * c + n * d
        → c * d + (p * d + m * c) * l ≤ (q * c + n * d) * l
    go p n c q m d l P N Q M L i j k o h =
        let a = ap (λ (z : ℕ). z * d) i in
        let b = ap (λ (z : ℕ). z * d) j in
        let s = ap (λ (z : ℕ). z * c) k in
        let t = ap (λ (z : ℕ). z * c) o in
        let g : P + M < Q + N = lt_of_mul-lt-mul_right (c * d) (omega (arith, mul-lt-mul_of_pos_right h L)) in
        omega (arith, mul-le-mul_right (c * d) g)

sub_pos_finite : (f : Format) (x y : Float) → T (fits f x) → T (fits f y) → T (finite x) → T (finite y) → T (lt x y) → T (lt nought (sub f y x))
sub_pos_finite f x y F G p q h =
    lt_of_lt-le nought (round f false 1 (2 ^ low f)) (sub f y x) (least_pos f)
    (rounds_mono f (round f false 1 (2 ^ low f)) (sub f y x) 1 0 (2 ^ low f) _ _ (den y * den x) (pow_pos (low f)) (mul-pos (den_pos y) (den_pos x)) (rounds_up f (2 ^ low f) 1 1 0 refl) (sub_is f y x q p)
    (go (plus x) (less x) (den x) (plus y) (less y) (den y) (2 ^ low f) (gap f x y F G p q h)))
  where
    go : (p n c q m d l : ℕ) → c * d + (p * d + m * c) * l ≤ (q * c + n * d) * l → 1 * (d * c) + (m * c + p * d) * l ≤ (q * c + n * d) * l + 0 * (d * c)
    go p n c q m d l h = omega arith

sub_pos_at : (f : Format) {x y : Float} → Ordered x y → T (fits f x) → T (fits f y) → T (number (sub f y x)) → T (lt x y) → T (lt nought (sub f y x))
unfolding lt
sub_pos_at f (least y i) F G r h = rw (sub-inf f true y r) tt
sub_pos_at f (greatest x i) F G r h = rw (inf-sub f false x r) tt
sub_pos_at f (between s m e t n d i) F G r h = sub_pos_finite f (fin s m e) (fin t n d) F G tt tt h

pub sub_pos : (f : Format) (x y : Float) → T (fits f x) → T (fits f y) → T (number (sub f y x)) → T (lt x y) → T (lt nought (sub f y x))
sub_pos f x y F G r h = sub_pos_at f (ordered x y (lt-le x y h)) F G r h

sub-neg-finite : (f : Format) (x y : Float) → T (fits f x) → T (fits f y) → T (finite x) → T (finite y) → T (lt x y) → T (lt (sub f x y) nought)
sub-neg-finite f x y F G p q h =
    lt_of_le-lt (sub f x y) (round f true 1 (2 ^ low f)) nought
    (rounds_mono f (sub f x y) (round f true 1 (2 ^ low f)) _ _ (den x * den y) 0 1 (2 ^ low f) (mul-pos (den_pos x) (den_pos y)) (pow_pos (low f)) (sub_is f x y p q) (rounds_down f (2 ^ low f) 1 0 1 refl)
    (go (plus x) (less x) (den x) (plus y) (less y) (den y) (2 ^ low f) (gap f x y F G p q h)))
    (least-neg f)
  where
    go : (p n c q m d l : ℕ) → c * d + (p * d + m * c) * l ≤ (q * c + n * d) * l → (p * d + m * c) * l + 1 * (c * d) ≤ 0 * (c * d) + (n * d + q * c) * l
    go p n c q m d l h = omega arith

sub-neg_at : (f : Format) {x y : Float} → Ordered x y → T (fits f x) → T (fits f y) → T (number (sub f x y)) → T (lt x y) → T (lt (sub f x y) nought)
unfolding lt
sub-neg_at f (least y i) F G r h = rw (inf-sub f true y r) tt
sub-neg_at f (greatest x i) F G r h = rw (sub-inf f false x r) tt
sub-neg_at f (between s m e t n d i) F G r h = sub-neg-finite f (fin s m e) (fin t n d) F G tt tt h

pub sub-neg : (f : Format) (x y : Float) → T (fits f x) → T (fits f y) → T (number (sub f x y)) → T (lt x y) → T (lt (sub f x y) nought)
sub-neg f x y F G r h = sub-neg_at f (ordered x y (lt-le x y h)) F G r h

-- ---- one less x: in zero to one where x is, above zero below one, and below zero above one
pub one_less_nonneg : (f : Format) (x : Float) → T (le x one) → T (le nought (sub f one x))
one_less_nonneg f x h = sub_nonneg f x one (sub-number_left f one x tt (le-number_left x one h)) h

pub one_less_le : (f : Format) (x : Float) → T (le nought x) → T (le (sub f one x) one)
one_less_le f x h = sub-le f one x (one_fits f) h (sub-number_left f one x tt (le-number_right nought x h))

pub one_less_pos : (f : Format) (x : Float) → T (fits f x) → T (lt x one) → T (lt nought (sub f one x))
one_less_pos f x F h = sub_pos f x one F (one_fits f) (sub-number_left f one x tt (le-number_left x one (lt-le x one h))) h

pub one_less_neg : (f : Format) (x : Float) → T (fits f x) → T (lt one x) → T (lt (sub f one x) nought)
one_less_neg f x F h = sub-neg f one x (one_fits f) F (sub-number_left f one x tt (le-number_right one x (lt-le one x h))) h
