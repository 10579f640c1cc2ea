-- Some row of a column, which rows count, and what a column of flags has in a row.
use Rattle.std.specs.Prelude.{ℕ, zero, suc, ◌<◌, ◌≤◌, ◌+◌, ◌≡◌, Bool, false, ◌||◌, ◌&&◌, not, cond, List, eqb, length, get_or}
use Rattle.ids.specs.declared.pool.Span.{Span}

-- p holds of some k below n
unfoldable pub some : (ℕ → Bool) → ℕ → Bool
some p zero = false
some p (suc n) = some p n || p n

-- the answers of a test, as `post` has them, are those of `fault`, at each of n rows
abbrev pub Finds : (ℕ → Bool → Type 0) → (ℕ → Bool) → ℕ → Type 0
Finds post fault n = (k : ℕ) → k < n → (answer : Bool) → post k answer → answer ≡ fault k

-- row k counts: all do, or its flag is not zero; past the flags' end a flag is zero
unfoldable pub counts : Bool → List ℕ → ℕ → Bool
counts all flags k = all || not (eqb (get_or flags k 0) 0)

-- row k counts, and it is at fault
unfoldable pub among : Bool → List ℕ → (ℕ → Bool) → ℕ → Bool
among all flags fault k = counts all flags k && fault k

-- r of n rows are to be read: unless all count, each of the r has a flag; the others do not count
pub record Read (all : Bool) (flags : List ℕ) (n r : ℕ) : Type 0 where
  pub within : r ≤ n
  pub flagged : all ≡ false → r ≤ length flags
  pub others : (k : ℕ) → r ≤ k → k < n → counts all flags k ≡ false

-- row k of a column of flag bytes: zero or one
unfoldable pub bit_of : List ℕ → Span → ℕ → ℕ
bit_of bytes span k = cond (eqb (get_or bytes (span.at + k) 0) 0) 0 1
