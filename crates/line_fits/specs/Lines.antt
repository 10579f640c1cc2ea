-- The row of a line that fits the moment asked of best. A line's rows are those of the line entries that have its token.
use Rattle.std.specs.Prelude.{ℕ, zero, suc, Bool, cond, List, [], ltb, Option, Some, None}
use Rattle.ids.specs.Pool.{cell_of}
use Rattle.row_stands.specs.Stands.{stand_of}
use Rattle.row_lookup.specs.Rows.{row_is, place_of}
use Rattle.row_stands.specs.declared.rows.Rows.TheVariants.{Lines}
use Rattle.trip_fits.specs.Fits.{trip_fit}
use Rattle.departure_fits.specs.Departures.{away}
use Rattle.departure_fits.specs.declared.departure.Count.{Count}
use Rattle.departure_fits.specs.declared.departure.Fit.{Fit}
use Rattle.trip_fits.specs.declared.fit.Plan.{Plan}
use Rattle.line_fits.specs.declared.line.Best.{Best}

-- row k of the line entries has the token
abbrev pub on_line : List ℕ → List ℕ → Plan → List ℕ → ℕ → Bool
on_line bytes words p token k = row_is (stand_of bytes words (Lines p.lines.token) token [] 0 0) k

-- how well row k's trip fits; one of another line never does
unfoldable pub row_fit : List ℕ → List ℕ → Plan → List ℕ → Count → Count → ℕ → Option Fit
row_fit bytes words p token today yesterday k =
    cond (on_line bytes words p token k) (trip_fit bytes words p today yesterday (cell_of words p.lines.trip k)) None

-- the first row that does not come before the token's, or one past all
abbrev pub line_from : List ℕ → List ℕ → Plan → List ℕ → ℕ
line_from bytes words p token = place_of (stand_of bytes words (Lines p.lines.token) token [] 0 0) p.lines.trip.n

-- how far away the row found is
abbrev pub least_of : (ℕ → Option Fit) → Option ℕ → ℕ
least_of fits (Some b) = away (fits b)
least_of fits None = 901

-- the first of n rows than which none is nearer, no more than 900 seconds away
unfoldable pub best_of : (ℕ → Option Fit) → ℕ → Option ℕ
best_of fits zero = None
best_of fits (suc n) = cond (ltb (away (fits n)) (least_of fits (best_of fits n))) (Some n) (best_of fits n)

-- the row found so far, with row k, which is so far away
abbrev pub kept_of : Best → ℕ → ℕ → Best
kept_of best away k = cond (ltb away best.away) (record { at = Some k; away = away }) best
