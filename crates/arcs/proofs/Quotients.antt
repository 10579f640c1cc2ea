-- A quotient of what is at least zero falls as its divisor grows. Assumes nothing.
use mathlib.Core.Path.{◌≡◌, ap}
use Prim.Native.Nat.{ℕ, ◌+◌, ◌-◌, ◌*◌, ◌≤◌, ◌<◌}
use native.Mathlib.Nat.{mul-pos, mul-le-mul_right}
use native.Mathlib.Omega.{arith}
use mathlib.Core.Bool.{false}
use lib.IntN.{ℤ}
use lib.Dec.{T}
use lib.Ieee.{Float, fin, Format, up, down, div, le, lt, eq}
use lib.Ieee.Fits.{up_pos}
use lib.Ieee.Scale.{finite}
use lib.Ieee.Positive.{den, den_pos}
use Rattle.floats.proofs.Signed.{plus, less, le→below, rounds_mono}
use Rattle.floats.proofs.Order.{nought, less_plus, Above, some, unbounded, above, lt_of_lt-le}
use Rattle.floats.proofs.Products.{div_is}

cross : (p n a b x : ℕ) → n ≤ p → a ≤ b → p * a * x + n * b * x ≤ p * b * x + n * a * x
cross p n a b x h k = go (p - n) (join p n h)
  where
    join : (p n : ℕ) → n ≤ p → p ≡ n + (p - n)
    join p n h = omega arith

    go : (u : ℕ) → p ≡ n + u → p * a * x + n * b * x ≤ p * b * x + n * a * x
    go u i = omega (arith, ap (λ (z : ℕ). z * (a * x)) i, ap (λ (z : ℕ). z * (b * x)) i, mul-le-mul_right (u * x) k)

laid_out : (p l x nz dz nw dw : ℕ) → l ≤ p → nz * dw + 0 * dz ≤ nw * dz + 0 * dw → p * dw * (nz * x) + l * dz * (nw * x) ≤ p * dz * (nw * x) + l * dw * (nz * x)
laid_out p l x nz dz nw dw h k = omega (arith, cross p l (nz * dw) (nw * dz) x h (omega arith))

falls_finite : (f : Format) (x : Float) (n : ℕ) (d : ℤ) (m : ℕ) (e : ℤ) → T (finite x) → T (le nought x) → 0 < n → 0 < m → T (le (fin false n d) (fin false m e)) →
    T (le (div f x (fin false m e)) (div f x (fin false n d)))
falls_finite f x n d m e p h a b l =
    rounds_mono f (div f x (fin false m e)) (div f x (fin false n d)) _ _ (m * up e * den x) _ _ (n * up d * den x)
    (mul-pos (mul-pos b (up_pos e)) (den_pos x))
    (mul-pos (mul-pos a (up_pos d)) (den_pos x))
    (div_is f x m e p b)
    (div_is f x n d p a)
    (laid_out (plus x) (less x) (den x) (n * up d) (down d) (m * up e) (down e) (less_plus x p h) (le→below (fin false n d) (fin false m e) tt tt l))

pub div_falls : (f : Format) (x z w : Float) → T (finite x) → T (le nought x) → T (lt nought z) → T (le z w) → T (finite w) → T (le (div f x w) (div f x z))
div_falls f x z w p h k l q = go (above z k) (above w (lt_of_lt-le nought z w k l)) l q
  where
    go : {z w : Float} → Above z → Above w → T (le z w) → T (finite w) → T (le (div f x w) (div f x z))
    go (some n d a) (some m e b) l q = falls_finite f x n d m e p h a b l
    go (some n d a) unbounded l q = absurd q
    go unbounded (some m e b) l q = unfold le lt eq in absurd l
    go unbounded unbounded l q = absurd q
