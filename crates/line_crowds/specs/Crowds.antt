-- Another row of a line is as likely as the one found.
use Rattle.std.specs.Prelude.{ℕ, Bool, not, ◌&&◌, eqb, ltb, Option}
use Rattle.columns.specs.Rows.{some}
use Rattle.departure_fits.specs.Departures.{away, near}
use Rattle.departure_fits.specs.declared.departure.Fit.{Fit}

-- row k is another than b, and within two minutes of it
unfoldable pub beside : (ℕ → Option Fit) → ℕ → ℕ → Bool
beside fits b k = not (eqb k b) && near (fits k) (fits b)

-- row b is over a minute away and has another beside it
unfoldable pub is_crowded : (ℕ → Option Fit) → ℕ → ℕ → Bool
is_crowded fits n b = ltb 60 (away (fits b)) && some (beside fits b) n
