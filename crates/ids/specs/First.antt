-- The first and the last number below a count that passes a test, and what was found.
use Rattle.std.specs.Prelude.{ℕ, zero, suc, Bool, true, false, cond, Option, Some, None}

-- the one found, or else the other
abbrev pub or_else : Option ℕ → Option ℕ → Option ℕ
or_else (Some k) f = Some k
or_else None f = f

-- whether it is at some place
abbrev pub is_at : Option ℕ → Bool
is_at (Some k) = true
is_at None = false

-- the place found, or n where there is none
abbrev pub or_at : ℕ → Option ℕ → ℕ
or_at n (Some k) = k
or_at n None = n

-- the first k below n that passes
unfoldable pub first : (ℕ → Bool) → ℕ → Option ℕ
first p zero = None
first p (suc n) = or_else (first p n) (cond (p n) (Some n) None)

-- the last k below n that passes
unfoldable pub last : (ℕ → Bool) → ℕ → Option ℕ
last p zero = None
last p (suc n) = cond (p n) (Some n) (last p n)
