-- The row of the updates that serves best as the only stop.
use Rattle.std.specs.Prelude.{ℕ, zero, suc, ◌+◌, Bool, ◌||◌, cond, List, ltb, Option, Some, None}
use Rattle.ids.specs.Pool.{cell_of}
use Rattle.tables.specs.declared.lent.Updates.{Updates}
use Rattle.update_rows.specs.Updates.{is_set, is_timed}

-- the best so far or, where its score is greater, row k
abbrev pub better : (ℕ → ℕ) → Option ℕ → ℕ → Option ℕ
better score (Some b) k = cond (ltb (score b) (score k)) (Some k) (Some b)
better score None k = Some k

-- the row of the greatest score, the first where several have it
unfoldable pub best_below : (ℕ → ℕ) → ℕ → Option ℕ
best_below score zero = None
best_below score (suc n) = better score (best_below score n) n

module _ (bytes : List ℕ) (u : Updates) where
  -- row k has a time or a delay
  unfoldable pub has_signal : ℕ → Bool
  has_signal k = is_timed bytes u k || (is_set bytes u.arrdelayed k || is_set bytes u.depdelayed k)

  -- how well row k serves as the only stop
  unfoldable pub score_of : List ℕ → ℕ → ℕ
  score_of words k = cond (has_signal k) 1000000 0 + cell_of words u.sequence k

  -- the row that serves best; none where there are no updates
  unfoldable pub best_row : List ℕ → Option ℕ
  best_row words = best_below (score_of words) u.sequence.n
