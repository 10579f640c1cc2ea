-- The first departure of the updates.
use Rattle.std.specs.Prelude.{ℕ, zero, suc, min, cond, List, ℤ, Option, Some, None}
use Rattle.tables.specs.declared.lent.Updates.{Updates}
use Rattle.update_rows.specs.Updates.{is_timed}
use Rattle.update_times.specs.Times.{departure_of}

-- the earlier of a moment, if there is one, and another
abbrev pub least_of : Option ℕ → ℕ → Option ℕ
least_of (Some a) x = Some (min a x)
least_of None x = Some x

module _ (bytes : List ℕ) (u : Updates) (times : List ℤ) where
  -- the earlier of a moment, if there is one, and row k's departure, if it has a time
  abbrev pub earlier : Option ℕ → ℕ → Option ℕ
  earlier first k = cond (is_timed bytes u k) (least_of first (departure_of bytes u times k)) first

  -- the first departure of rows 0 to n - 1
  unfoldable pub first_below : ℕ → Option ℕ
  first_below zero = None
  first_below (suc n) = earlier (first_below n) n

  -- the first of all
  unfoldable pub first_departure : Option ℕ
  first_departure = first_below u.sequence.n
