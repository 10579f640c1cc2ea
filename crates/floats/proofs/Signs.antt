-- Signs go through the operations, for all floats: a product and a quotient of -x are those of x with the sign turned, and a square keeps nothing of the sign.
-- A difference the other way round is the difference with its sign turned, but where it is zero, which is +0 both ways. Any format. Assumes nothing.
use mathlib.Core.Path.{◌≡◌, refl, sym, ap, ◌∙◌}
use mathlib.Core.Logic.{◌⊎◌, inl, inr}
use Prim.Native.Nat.{ℕ, ◌+◌, ◌-◌, ◌*◌}
use mathlib.Core.Bool.{Bool, true, false, not, ◌&&◌, beq, cond}
use lib.Dec.{ltb, eqb}
use lib.IntN.{pos}
use lib.Ieee.{Float, nan, inf, fin, Format, up, down, unlike, round, neg, add, sum, sub, mul, div}
use Rattle.floats.proofs.Signed.{neg-neg, neg-round}
use Rattle.floats.proofs.Sums.{add_comm}
use Rattle.floats.proofs.Products.{mul_comm}

-- ---- rounding
round_not : (f : Format) (s : Bool) (a c : ℕ) → round f (not s) a c ≡ neg (round f s a c)
round_not f false a c = sym (neg-round f a c)
round_not f true a c = sym (ap neg (sym (neg-round f a c)) ∙ neg-neg (round f false a c))

unlike_not : (s t : Bool) → unlike (not s) t ≡ not (unlike s t)
unlike_not false false = refl
unlike_not false true = refl
unlike_not true false = refl
unlike_not true true = refl

-- ---- products and quotients
cond-neg : (b : Bool) {x y : Float} (u v : Float) → x ≡ neg u → y ≡ neg v → cond b x y ≡ neg (cond b u v)
cond-neg true u v h k = h
cond-neg false u v h k = k

module _ (s t : Bool) where
  inf_not : inf (unlike (not s) t) ≡ neg (inf (unlike s t))
  unfolding neg
  inf_not = ap inf (unlike_not s t)

  inf_or_nan : (b : Bool) → cond b nan (inf (unlike (not s) t)) ≡ neg (cond b nan (inf (unlike s t)))
  unfolding neg
  inf_or_nan b = cond-neg b nan (inf (unlike s t)) refl inf_not

  round-unlike : (f : Format) (a c : ℕ) → round f (unlike (not s) t) a c ≡ neg (round f (unlike s t) a c)
  round-unlike f a c = ap (λ (u : Bool). round f u a c) (unlike_not s t) ∙ round_not f (unlike s t) a c

pub neg-mul : (f : Format) (x y : Float) → mul f (neg x) y ≡ neg (mul f x y)
unfolding mul neg
neg-mul f nan y = refl
neg-mul f (inf s) nan = refl
neg-mul f (inf s) (inf t) = inf_not s t
neg-mul f (inf s) (fin t n d) = inf_or_nan s t (eqb n 0)
neg-mul f (fin s m e) nan = refl
neg-mul f (fin s m e) (inf t) = inf_or_nan s t (eqb m 0)
neg-mul f (fin s m e) (fin t n d) = round-unlike s t f _ _

pub square_neg : (f : Format) (x : Float) → mul f (neg x) (neg x) ≡ mul f x x
square_neg f x = neg-mul f x (neg x) ∙ ap neg (mul_comm f x (neg x) ∙ neg-mul f x x) ∙ neg-neg (mul f x x)

pub neg-div : (f : Format) (x y : Float) → div f (neg x) y ≡ neg (div f x y)
unfolding div neg
neg-div f nan y = refl
neg-div f (inf s) nan = refl
neg-div f (inf s) (inf t) = refl
neg-div f (inf s) (fin t n d) = inf_not s t
neg-div f (fin s m e) nan = refl
neg-div f (fin s m e) (inf t) = ap (λ (u : Bool). fin u 0 (pos 0)) (unlike_not s t)
neg-div f (fin s m e) (fin t n d) = cond-neg (eqb n 0) _ _ (inf_or_nan s t (eqb m 0)) (round-unlike s t f _ _)

-- ---- differences
abbrev pub Turned : Float → Float → Type 0
Turned x y = (y ≡ neg x) ⊎ (y ≡ x)

opposite_neg : (f : Format) (s : Bool) (a b c : ℕ) → Turned (sum f s a (not s) b c) (sum f (not s) a s b c)
unfolding sum
opposite_neg f s a b c = go s (ltb a b) (ltb b a)
  where
    go : (s x y : Bool) → Turned (cond (beq s (not s)) (round f s (a + b) c) (cond x (round f (not s) (b - a) c) (round f (s && y) (a - b) c))) (cond (beq (not s) s) (round f (not s) (a + b) c) (cond x (round f s (b - a) c) (round f (not s && y) (a - b) c)))
    go false true y = inl (round_not f true (b - a) c)
    go false false true = inl (round_not f false (a - b) c)
    go false false false = inr refl
    go true true y = inl (round_not f false (b - a) c)
    go true false true = inl (round_not f true (a - b) c)
    go true false false = inr refl

sum-neg : (f : Format) (s : Bool) (a : ℕ) (t : Bool) (b c : ℕ) → Turned (sum f s a t b c) (sum f (not s) a (not t) b c)
sum-neg f false a false b c = unfold sum in inl (round_not f false (a + b) c)
sum-neg f true a true b c = unfold sum in inl (round_not f true (a + b) c)
sum-neg f false a true b c = opposite_neg f false a b c
sum-neg f true a false b c = opposite_neg f true a b c

inf-neg : (s t : Bool) → cond (beq (not s) (not t)) (inf (not s)) nan ≡ neg (cond (beq s t) (inf s) nan)
unfolding neg
inf-neg false false = refl
inf-neg false true = refl
inf-neg true false = refl
inf-neg true true = refl

add-neg : (f : Format) (x y : Float) → Turned (add f x y) (add f (neg x) (neg y))
unfolding add neg
add-neg f nan y = inl refl
add-neg f (inf s) nan = inl refl
add-neg f (inf s) (inf t) = inl (inf-neg s t)
add-neg f (inf s) (fin t n d) = inl refl
add-neg f (fin s m e) nan = inl refl
add-neg f (fin s m e) (inf t) = inl refl
add-neg f (fin s m e) (fin t n d) = sum-neg f s (m * up e * down d) t (n * up d * down e) (down e * down d)

pub sub_turned : (f : Format) (x y : Float) → Turned (sub f x y) (sub f y x)
unfolding sub
sub_turned f x y = rw (add_comm f y (neg x)) (rw (neg-neg y) at (add-neg f x (neg y)))
