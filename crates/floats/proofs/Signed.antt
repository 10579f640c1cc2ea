-- A finite value of either sign is the fraction (plus - less) / den. The three comparisons are those of the fractions (`Under`, `Level`, `Below`),
-- a sign turns the order round, and rounding a signed fraction keeps it (`Rounds`, `rounds_mono`).
-- Any format, zeros of both signs and overflow to an infinity included. Assumes nothing.
use mathlib.Core.Path.{◌≡◌, refl, sym, ap, ◌∙◌, subst}
use mathlib.Core.Logic.{◌⊎◌, inl, inr}
use Prim.Native.Nat.{ℕ, zero, suc, ◌+◌, ◌-◌, ◌*◌, ◌^◌, ◌≤◌, ◌<◌}
use native.Mathlib.Nat.{le_of_eq, le_of_lt, lt_of_lt_of_le, eq-or-lt_of_le, lt_irrefl, zero-lt-suc, zero-mul, mul-pos}
use native.Mathlib.Omega.{arith}
use mathlib.Core.Bool.{Bool, true, false, not, ◌&&◌, cond, true≢false, false≢true, ◌||◌}
use lib.IntN.{ℤ}
use lib.Dec.{T, ltb, eqb, ltb→lt, lt→ltb, nltb→le, eqb→eq}
use lib.Pow.{pow_pos}
use lib.Ieee.{Float, nan, inf, fin, Format, prec, emax, low, up, down, odd, units, round, neg, lt, eq, le}
use lib.Ieee.Fits.{and_l, and_r, and_i, eq→eqb, round_is}
use lib.Ieee.Exact.{HasValue, round_exact}
use lib.Ieee.Order.{round_mono}
use lib.Ieee.Scale.{finite}
use lib.Ieee.Positive.{den}

-- ---- a finite value is (plus - less) / den
abbrev pub plus : Float → ℕ
plus nan = 0
plus (inf s) = 0
plus (fin false m e) = m * up e
plus (fin true m e) = 0

abbrev pub less : Float → ℕ
less nan = 0
less (inf s) = 0
less (fin false m e) = 0
less (fin true m e) = m * up e

-- x < y, x = y and x ≤ y, without cases on the signs
abbrev pub Under : Float → Float → Type 0
Under x y = plus x * den y + less y * den x < plus y * den x + less x * den y

abbrev pub Level : Float → Float → Type 0
Level x y = plus x * den y + less y * den x ≡ plus y * den x + less x * den y

abbrev pub Below : Float → Float → Type 0
Below x y = plus x * den y + less y * den x ≤ plus y * den x + less x * den y

-- ---- two tests, and two numbers
or_split : (a b : Bool) → T (a || b) → T a ⊎ T b
or_split true b t = inl tt
or_split false b t = inr t

pub or_left : (a b : Bool) → T a → T (a || b)
or_left true b t = tt
or_left false b t = absurd t

or_right : (a b : Bool) → T b → T (a || b)
or_right true b t = tt
or_right false b t = t

pub le_or_lt : (a b : ℕ) → (a ≤ b) ⊎ (b < a)
le_or_lt a b = go (ltb b a) (ltb→lt b a) (nltb→le b a)
  where
    go : (t : Bool) → (T t → b < a) → (T (not t) → a ≤ b) → (a ≤ b) ⊎ (b < a)
    go true x y = inr (x tt)
    go false x y = inl (y tt)

-- ---- `lt`
pub lt→under : (x y : Float) → T (finite x) → T (finite y) → T (lt x y) → Under x y
unfolding lt
lt→under nan y p q h = absurd p
lt→under (inf s) y p q h = absurd p
lt→under (fin s m e) nan p q h = absurd q
lt→under (fin s m e) (inf t) p q h = absurd q
lt→under (fin false m e) (fin false n d) p q h = let l = ltb→lt (m * up e * down d) (n * up d * down e) h in omega arith
lt→under (fin false m e) (fin true n d) p q h = absurd h
lt→under (fin true m e) (fin false n d) p q h = let l = ltb→lt 0 (m * up e * down d + n * up d * down e) h in omega arith
lt→under (fin true m e) (fin true n d) p q h = let l = ltb→lt (n * up d * down e) (m * up e * down d) h in omega arith

pub under→lt : (x y : Float) → T (finite x) → T (finite y) → Under x y → T (lt x y)
unfolding lt
under→lt nan y p q h = absurd p
under→lt (inf s) y p q h = absurd p
under→lt (fin s m e) nan p q h = absurd q
under→lt (fin s m e) (inf t) p q h = absurd q
under→lt (fin false m e) (fin false n d) p q h = lt→ltb (m * up e * down d) (n * up d * down e) (omega arith)
under→lt (fin false m e) (fin true n d) p q h = absurd (never (m * up e * down d + n * up d * down e) (down e) (down d) h)
  where
    never : (a b c : ℕ) → a < 0 * b + 0 * c → ⊥
    never a b c h = omega arith
under→lt (fin true m e) (fin false n d) p q h = lt→ltb 0 (m * up e * down d + n * up d * down e) (omega arith)
under→lt (fin true m e) (fin true n d) p q h = lt→ltb (n * up d * down e) (m * up e * down d) (omega arith)

-- ---- `eq`
both_zero : (a b : ℕ) → T (eqb a b && eqb a 0) → a + b ≡ 0
both_zero a b t =
    let h = eqb→eq a b (and_l (eqb a b) (eqb a 0) t) in
    let k = eqb→eq a 0 (and_r (eqb a b) (eqb a 0) t) in
    omega arith

zero_both : (a b : ℕ) → a + b ≡ 0 → T (eqb a b && eqb a 0)
zero_both a b h = and_i (eqb a b) (eqb a 0) (eq→eqb {a = a} {b = b} (omega arith)) (eq→eqb {a = a} {b = 0} (omega arith))

equal : (a b : ℕ) → a ≡ b → T (eqb a b && true)
equal a b h = and_i (eqb a b) true (eq→eqb h) tt

pub eq→level : (x y : Float) → T (finite x) → T (finite y) → T (eq x y) → Level x y
unfolding eq
eq→level nan y p q h = absurd p
eq→level (inf s) y p q h = absurd p
eq→level (fin s m e) nan p q h = absurd q
eq→level (fin s m e) (inf t) p q h = absurd q
eq→level (fin false m e) (fin false n d) p q h = let l = eqb→eq (m * up e * down d) (n * up d * down e) (and_l (eqb (m * up e * down d) (n * up d * down e)) true h) in omega arith
eq→level (fin false m e) (fin true n d) p q h = let l = both_zero (m * up e * down d) (n * up d * down e) h in omega arith
eq→level (fin true m e) (fin false n d) p q h = let l = both_zero (m * up e * down d) (n * up d * down e) h in omega arith
eq→level (fin true m e) (fin true n d) p q h = let l = eqb→eq (m * up e * down d) (n * up d * down e) (and_l (eqb (m * up e * down d) (n * up d * down e)) true h) in omega arith

pub level→eq : (x y : Float) → T (finite x) → T (finite y) → Level x y → T (eq x y)
unfolding eq
level→eq nan y p q h = absurd p
level→eq (inf s) y p q h = absurd p
level→eq (fin s m e) nan p q h = absurd q
level→eq (fin s m e) (inf t) p q h = absurd q
level→eq (fin false m e) (fin false n d) p q h = equal (m * up e * down d) (n * up d * down e) (omega arith)
level→eq (fin false m e) (fin true n d) p q h = zero_both (m * up e * down d) (n * up d * down e) (omega arith)
level→eq (fin true m e) (fin false n d) p q h = zero_both (m * up e * down d) (n * up d * down e) (omega arith)
level→eq (fin true m e) (fin true n d) p q h = equal (m * up e * down d) (n * up d * down e) (omega arith)

-- ---- `le`
pub le→below : (x y : Float) → T (finite x) → T (finite y) → T (le x y) → Below x y
unfolding le
le→below x y p q h = elim (or_split (lt x y) (eq x y) h) [ inl l ↦ le_of_lt (lt→under x y p q l) | inr l ↦ le_of_eq (eq→level x y p q l) ]

pub below→le : (x y : Float) → T (finite x) → T (finite y) → Below x y → T (le x y)
unfolding le
below→le x y p q h = elim (eq-or-lt_of_le h) [ inl l ↦ or_right (lt x y) (eq x y) (level→eq x y p q l) | inr l ↦ or_left (lt x y) (eq x y) (under→lt x y p q l) ]

-- ---- a sign turns the order round
neg_below : (s : Bool) (m : ℕ) (e : ℤ) (t : Bool) (n : ℕ) (d : ℤ) → Below (fin s m e) (fin t n d) → Below (fin (not t) n d) (fin (not s) m e)
neg_below false m e false n d h = omega arith
neg_below false m e true n d h = omega arith
neg_below true m e false n d h = omega arith
neg_below true m e true n d h = omega arith

pub neg-le : (x y : Float) → T (le x y) → T (le (neg y) (neg x))
unfolding le lt eq neg
neg-le nan y h = absurd h
neg-le (inf s) nan h = absurd h
neg-le (inf true) (inf true) h = tt
neg-le (inf true) (inf false) h = tt
neg-le (inf false) (inf true) h = absurd h
neg-le (inf false) (inf false) h = tt
neg-le (inf true) (fin t n d) h = tt
neg-le (inf false) (fin t n d) h = absurd h
neg-le (fin s m e) nan h = absurd h
neg-le (fin s m e) (inf true) h = absurd h
neg-le (fin s m e) (inf false) h = tt
neg-le (fin s m e) (fin t n d) h = below→le (fin (not t) n d) (fin (not s) m e) tt tt (neg_below s m e t n d (le→below (fin s m e) (fin t n d) tt tt h))

pub neg-neg : (x : Float) → neg (neg x) ≡ x
unfolding neg
neg-neg nan = refl
neg-neg (inf false) = refl
neg-neg (inf true) = refl
neg-neg (fin false m e) = refl
neg-neg (fin true m e) = refl

-- ---- the sign of what is rounded
neg-odd : (d q k l : ℕ) → neg (odd d false q k l) ≡ odd d true q k l
unfolding neg odd
neg-odd d zero k l = refl
neg-odd d (suc q) k l = refl

neg-units : (f : Format) (q k : ℕ) → neg (units f false q k) ≡ units f true q k
unfolding units neg
neg-units f q k = go (ltb (q * 2 ^ k) (2 ^ (low f + suc (emax f))))
  where
    go : (b : Bool) → neg (cond b (odd (suc (prec f)) false q k (low f)) (inf false)) ≡ cond b (odd (suc (prec f)) true q k (low f)) (inf true)
    go true = neg-odd (suc (prec f)) q k (low f)
    go false = refl

pub neg-round : (f : Format) (a c : ℕ) → neg (round f false a c) ≡ round f true a c
neg-round f a c = ap neg (round_is f false a c) ∙ neg-units f _ _ ∙ sym (round_is f true a c)

-- a number, zero and infinity included, that has the sign s
abbrev pub HasSign : Bool → Float → Type 0
HasSign s nan = ⊥
HasSign s (inf t) = t ≡ s
HasSign s (fin t m e) = t ≡ s

odd_sign : (d : ℕ) (s : Bool) (q k l : ℕ) → HasSign s (odd d s q k l)
unfolding odd
odd_sign d s zero k l = refl
odd_sign d s (suc q) k l = refl

units_sign : (f : Format) (s : Bool) (q k : ℕ) → HasSign s (units f s q k)
unfolding units
units_sign f s q k = go (ltb (q * 2 ^ k) (2 ^ (low f + suc (emax f))))
  where
    go : (b : Bool) → HasSign s (cond b (odd (suc (prec f)) s q k (low f)) (inf s))
    go true = odd_sign (suc (prec f)) s q k (low f)
    go false = refl

pub round_sign : (f : Format) (s : Bool) (a c : ℕ) → HasSign s (round f s a c)
round_sign f s a c = subst (HasSign s) (sym (round_is f s a c)) (units_sign f s _ _)

pub signs_le : (x y : Float) → HasSign true x → HasSign false y → T (le x y)
unfolding le lt eq
signs_le nan y h k = absurd h
signs_le (inf false) y h k = absurd (false≢true h)
signs_le (inf true) nan h k = absurd k
signs_le (inf true) (inf true) h k = tt
signs_le (inf true) (inf false) h k = tt
signs_le (inf true) (fin t n d) h k = tt
signs_le (fin false m e) y h k = absurd (false≢true h)
signs_le (fin true m e) nan h k = absurd k
signs_le (fin true m e) (inf true) h k = absurd (true≢false k)
signs_le (fin true m e) (inf false) h k = tt
signs_le (fin true m e) (fin true n d) h k = absurd (true≢false k)
signs_le (fin true m e) (fin false n d) h k = below→le (fin true m e) (fin false n d) tt tt (omega arith)

-- ---- zeros
round-zero : (f : Format) (s : Bool) (c : ℕ) → 0 < c → HasValue (round f s 0 c) s 0 c
round-zero f s c C = round_exact f s 0 c 0 0 C (pow_pos (prec f)) (pow_pos (low f + suc (emax f))) (none (2 ^ low f) c)
  where
    none : (a c : ℕ) → 0 * a ≡ 0 * 2 ^ 0 * c
    none a c = omega arith

no_size : (a c d : ℕ) → 0 < c → a * c ≡ 0 * d → a ≡ 0
no_size zero c d C h = refl
no_size (suc a) c d C h = absurd (lt_irrefl 0 (subst (λ (z : ℕ). 0 < z) (h ∙ zero-mul d) (mul-pos (zero-lt-suc a) C)))

zeros_below : (u : Bool) (m : ℕ) (e : ℤ) (w : Bool) (n : ℕ) (g : ℤ) → m * up e ≡ 0 → n * up g ≡ 0 → Below (fin u m e) (fin w n g)
zeros_below false m e false n g p q = omega (arith, ap (λ (z : ℕ). z * down g) p)
zeros_below false m e true n g p q = omega (arith, ap (λ (z : ℕ). z * down g) p, ap (λ (z : ℕ). z * down e) q)
zeros_below true m e false n g p q = omega arith
zeros_below true m e true n g p q = omega (arith, ap (λ (z : ℕ). z * down e) q)

zeros_le : (x y : Float) (s t : Bool) (c d : ℕ) → 0 < c → 0 < d → HasValue x s 0 c → HasValue y t 0 d → T (le x y)
zeros_le nan y s t c d C D h k = absurd h
zeros_le (inf u) y s t c d C D h k = absurd h
zeros_le (fin u m e) nan s t c d C D h k = absurd k
zeros_le (fin u m e) (inf w) s t c d C D h k = absurd k
zeros_le (fin u m e) (fin w n g) s t c d C D h k =
    below→le (fin u m e) (fin w n g) tt tt (zeros_below u m e w n g (no_size (m * up e) c (down e) C h.1) (no_size (n * up g) d (down g) D k.1))

-- ---- what the signed fraction (p - n) / c rounds to: either zero where p is n
abbrev pub Rounds : Format → Float → ℕ → ℕ → ℕ → Type 0
Rounds f r p n c = ((n ≤ p) × (r ≡ round f false (p - n) c)) ⊎ ((p ≤ n) × (r ≡ round f true (n - p) c))

pub rounds_up : (f : Format) (c k p n : ℕ) → p ≡ n + k → Rounds f (round f false k c) p n c
rounds_up f c k p n h = inl (omega arith, ap (λ (z : ℕ). round f false z c) (go p n k h))
  where
    go : (p n k : ℕ) → p ≡ n + k → k ≡ p - n
    go p n k h = omega arith

pub rounds_down : (f : Format) (c k p n : ℕ) → n ≡ p + k → Rounds f (round f true k c) p n c
rounds_down f c k p n h = inr (omega arith, ap (λ (z : ℕ). round f true z c) (go p n k h))
  where
    go : (p n k : ℕ) → n ≡ p + k → k ≡ n - p
    go p n k h = omega arith

join : (p n : ℕ) → n ≤ p → n + (p - n) ≡ p
join p n h = omega arith

-- the differences p - n and p' - n' as fractions
apart : (p n c p' n' c' : ℕ) → n ≤ p → n' ≤ p' → p * c' + n' * c ≤ p' * c + n * c' → (p - n) * c' ≤ (p' - n') * c
apart p n c p' n' c' h h' k = go (p - n) (p' - n') (join p n h) (join p' n' h')
  where
    go : (u u' : ℕ) → n + u ≡ p → n' + u' ≡ p' → u * c' ≤ u' * c
    go u u' e e' = omega (arith, ap (λ (z : ℕ). z * c') e, ap (λ (z : ℕ). z * c) e')

-- where the larger fraction is not positive and the smaller not negative, both are zero
squeezed : (p n c p' n' c' : ℕ) → 0 < c → 0 < c' → n ≤ p → p' ≤ n' → p * c' + n' * c ≤ p' * c + n * c' → (p - n ≡ 0) × (n' - p' ≡ 0)
squeezed p n c p' n' c' C C' h h' k = go (p - n) (n' - p') (join p n h) (join n' p' h')
  where
    gone : (u c : ℕ) → 0 < c → u * c ≤ 0 → u ≡ 0
    gone zero c C h = refl
    gone (suc u) c C h = absurd (lt_irrefl 0 (lt_of_lt_of_le (mul-pos (zero-lt-suc u) C) h))

    go : (u v : ℕ) → n + u ≡ p → p' + v ≡ n' → (u ≡ 0) × (v ≡ 0)
    go u v e e' = (
      gone u c' C' (omega (arith, ap (λ (z : ℕ). z * c') e, ap (λ (z : ℕ). z * c) e')),
      gone v c C (omega (arith, ap (λ (z : ℕ). z * c') e, ap (λ (z : ℕ). z * c) e')),
    )

pub rounds_mono : (f : Format) (r r' : Float) (p n c p' n' c' : ℕ) → 0 < c → 0 < c' → Rounds f r p n c → Rounds f r' p' n' c' → p * c' + n' * c ≤ p' * c + n * c' → T (le r r')
rounds_mono f r r' p n c p' n' c' C C' (inl a) (inl b) h = rw (a.1, b.1) (round_mono f (p - n) c (p' - n') c' C C' (apart p n c p' n' c' a.0 b.0 h))
rounds_mono f r r' p n c p' n' c' C C' (inl a) (inr b) h =
    let z = squeezed p n c p' n' c' C C' a.0 b.0 h in
    rw (a.1, b.1, z.0, z.1) (zeros_le (round f false 0 c) (round f true 0 c') false true c c' C C' (round-zero f false c C) (round-zero f true c' C'))
rounds_mono f r r' p n c p' n' c' C C' (inr a) (inl b) h = rw (a.1, b.1) (signs_le (round f true (n - p) c) (round f false (p' - n') c') (round_sign f true (n - p) c) (round_sign f false (p' - n') c'))
rounds_mono f r r' p n c p' n' c' C C' (inr a) (inr b) h =
    rw (a.1, b.1, ← neg-round f (n - p) c, ← neg-round f (n' - p') c')
    (neg-le (round f false (n' - p') c') (round f false (n - p) c) (round_mono f (n' - p') c' (n - p) c C' C (apart n' p' c' n p c b.0 a.0 (turn (p * c') (n' * c) (p' * c) (n * c') h))))
  where
    turn : (a b c d : ℕ) → a + b ≤ c + d → b + a ≤ d + c
    turn a b c d h = omega arith
