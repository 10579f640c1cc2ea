-- The whole root: `whole_root n` is the one w with w * w ≤ n < (w + 1) * (w + 1). Assumes nothing.
use mathlib.Core.Path.{◌≡◌}
use Prim.Native.Nat.{ℕ, zero, suc, ◌+◌, ◌*◌, ◌/◌, ◌^◌, ◌≤◌, ◌<◌}
use native.Mathlib.Nat.{lt_of_lt_of_le, le_of_suc-le-suc, lt_of_not-le, not-le_of_lt, le_antisymm, mul-le-mul, pow-le-pow_left, pow-succ'}
use native.Mathlib.Omega.{arith}
use mathlib.Core.Bool.{Bool, true, false, not, cond}
use lib.Dec.{T, leb, leb→le, nleb→lt, lit≤}
use lib.Ieee.{size}
use lib.Ieee.Digits.{size-lt}
use Rattle.roots.specs.Whole.{root_in, whole_root}

abbrev pub IsRoot : ℕ → ℕ → Type 0
IsRoot n w = (w * w ≤ n) × (n < (w + 1) * (w + 1))

step : (n v : ℕ) → IsRoot (n / 4) v → IsRoot n (cond (leb ((2 * v + 1) * (2 * v + 1)) n) (2 * v + 1) (2 * v))
step n v h = go (leb ((2 * v + 1) * (2 * v + 1)) n) (leb→le ((2 * v + 1) * (2 * v + 1)) n) (nleb→lt ((2 * v + 1) * (2 * v + 1)) n)
  where
    go : (b : Bool) → (T b → (2 * v + 1) * (2 * v + 1) ≤ n) → (T (not b) → n < (2 * v + 1) * (2 * v + 1)) → IsRoot n (cond b (2 * v + 1) (2 * v))
    go true y z = let a = y tt in omega arith
    go false y z = let a = z tt in omega arith

quarter : (n p : ℕ) → n < 4 * p → n / 4 < p
quarter n p h = omega arith

root_in_is : (k n : ℕ) → n < 4 ^ k → IsRoot n (root_in k n)
unfolding root_in
root_in_is zero n h = omega arith
root_in_is (suc k) n h = step n (root_in k (n / 4)) (root_in_is k (n / 4) (quarter n (4 ^ k) (rw pow-succ' at h)))

pub whole_root_is : (n : ℕ) → IsRoot n (whole_root n)
unfolding whole_root
whole_root_is n = root_in_is (size n) n (lt_of_lt_of_le (size-lt n) (pow-le-pow_left (lit≤ tt) (size n)))

pub square_lt_back : (a b : ℕ) → a * a < b * b → a < b
square_lt_back a b h = lt_of_not-le (λ (g : b ≤ a). not-le_of_lt h (mul-le-mul g g))

pub square_le_back : (a b : ℕ) → a * a ≤ b * b → a ≤ b
square_le_back a b h = le_of_suc-le-suc (lt_of_not-le (λ (g : b < a). not-le_of_lt (omega (arith, mul-le-mul g g)) h))

low_is : (a b : ℕ) → a < b + 1 → a ≤ b
low_is a b h = omega arith

pub whole_root_ge : (n v : ℕ) → v * v ≤ n → v ≤ whole_root n
whole_root_ge n v h = low_is v (whole_root n) (square_lt_back v (whole_root n + 1) (lt_of_le_of_lt h (whole_root_is n).1))
  where
    lt_of_le_of_lt : {a b c : ℕ} → a ≤ b → b < c → a < c
    lt_of_le_of_lt p q = omega arith

pub whole_root_lt : (n v : ℕ) → n < v * v → whole_root n < v
whole_root_lt n v h = square_lt_back (whole_root n) v (go (whole_root n * whole_root n) n (v * v) (whole_root_is n).0 h)
  where
    go : (a b c : ℕ) → a ≤ b → b < c → a < c
    go a b c p q = omega arith

pub whole_root_unique : (n v : ℕ) → IsRoot n v → whole_root n ≡ v
whole_root_unique n v h = le_antisymm (low_is (whole_root n) v (whole_root_lt n (v + 1) h.1)) (whole_root_ge n v h.0)
