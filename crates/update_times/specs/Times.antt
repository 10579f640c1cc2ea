-- When a row of the updates arrives and when it departs.
use Rattle.std.specs.Prelude.{ℕ, List, ℤ}
use Rattle.tables.specs.declared.lent.Updates.{Updates}
use Rattle.update_rows.specs.Updates.{moment_or}

module _ (bytes : List ℕ) (u : Updates) (times : List ℤ) where
  -- when row k arrives and when it departs
  abbrev pub arrival_of : ℕ → ℕ
  arrival_of k = moment_or bytes times u.arrives u.arrival u.departure k

  abbrev pub departure_of : ℕ → ℕ
  departure_of k = moment_or bytes times u.departs u.departure u.arrival k
