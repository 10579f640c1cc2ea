-- Tests that hold together, and a test at each number below a bound, by computing.
use Prim.Native.Nat.{ℕ, zero, suc, ◌<◌}
use mathlib.Core.Path.{◌≡◌, refl, sym}
use mathlib.Core.Bool.{Bool, true, false, ◌&&◌, true≢false}
use native.Mathlib.Omega.{arith}
use borrow.Author.Tests.{eqb-true, eqb-false}
use lib.Dec.{eqb}

pub and_left : (a b : Bool) → a && b ≡ true → a ≡ true
and_left true b e = refl
and_left false b e = e

pub and_right : (a b : Bool) → a && b ≡ true → b ≡ true
and_right true b e = e
and_right false b e = absurd (true≢false (sym e))

-- the test p passes at each number below n
abbrev pub all : (ℕ → Bool) → ℕ → Bool
all p zero = true
all p (suc n) = p n && all p n

pub passes : (p : ℕ → Bool) (n : ℕ) → all p n ≡ true → (m : ℕ) → m < n → p m ≡ true
passes p zero e m h = absurd (omega arith)
passes p (suc n) e m h = go (eqb m n) refl (passes p n (and_right (p n) (all p n) e) m) where
  go : (t : Bool) → eqb m n ≡ t → (m < n → p m ≡ true) → p m ≡ true
  go true f k = rw (eqb-true m n f) (and_left (p n) (all p n) e)
  go false f k = k (omega (arith, eqb-false m n f))
