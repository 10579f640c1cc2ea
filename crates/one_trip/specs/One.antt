-- How many trips a number names. Definitions only.
use Rattle.std.specs.Prelude.{ℕ, cond, ltb}

-- of so many in the table
unfoldable pub one_of : ℕ → ℕ → ℕ
one_of trip trips = cond (ltb trip trips) 1 0
