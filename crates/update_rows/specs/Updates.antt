-- What a row of the updates says. Where one of its two times is missing it is read from the other.
use Rattle.std.specs.Prelude.{ℕ, ◌+◌, Bool, not, ◌||◌, cond, List, eqb, ℤ, pos, negsuc, get_or}
use Rattle.ids.specs.declared.pool.Span.{Span}
use Rattle.columns.specs.Rows.{bit_of}
use Rattle.tables.specs.declared.lent.Updates.{Updates}

-- a time as a moment; no check passes one below 0
abbrev pub moment_of : ℤ → ℕ
moment_of (pos n) = n
moment_of (negsuc n) = 0

-- row k of a column of times
unfoldable pub moment_at : List ℤ → Span → ℕ → ℕ
moment_at times span k = moment_of (get_or times (span.at + k) (pos 0))

-- row k of a column of flags is set
unfoldable pub is_set : List ℕ → Span → ℕ → Bool
is_set bytes span k = not (eqb (bit_of bytes span k) 0)

-- row k of a column of times, where it is set, or else of another
unfoldable pub moment_or : List ℕ → List ℤ → Span → Span → Span → ℕ → ℕ
moment_or bytes times has own other k = cond (is_set bytes has k) (moment_at times own k) (moment_at times other k)

module _ (bytes : List ℕ) (u : Updates) where
  -- row k has a time
  unfoldable pub is_timed : ℕ → Bool
  is_timed k = is_set bytes u.arrives k || is_set bytes u.departs k
