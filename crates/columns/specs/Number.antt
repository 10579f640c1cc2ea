-- Faults of numbers.
use Rattle.std.specs.Prelude.{ℕ, ◌+◌, Bool, ◌||◌, List, ltb, leb, ℤ, pos, get_or}
use Rattle.std.specs.Int.Signed.{lt_z}

-- number k is at least n
unfoldable pub reaches_at : List ℕ → ℕ → ℕ → Bool
reaches_at s n k = leb n (get_or s k 0)

-- the rows from number k of `first` on, as many as number k of `count`, end past n
unfoldable pub ends_past_at : List ℕ → List ℕ → ℕ → ℕ → Bool
ends_past_at first count n k = ltb n (get_or first k 0 + get_or count k 0)

-- x is below lo or above hi
unfoldable pub beyond : ℤ → ℤ → ℤ → Bool
beyond lo hi x = lt_z x lo || lt_z hi x

-- number k is
unfoldable pub outside_at : List ℤ → ℤ → ℤ → ℕ → Bool
outside_at s lo hi k = beyond lo hi (get_or s k (pos 0))
