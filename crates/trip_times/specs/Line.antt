-- The trip of a line that fits the moment asked of best.
use Rattle.std.specs.Prelude.{ℕ, ◌<◌, ◌≤◌, cond, List, length, Option, Some, None}
use Rattle.ids.specs.Pool.{cell_of, id_of}
use Rattle.departure_fits.specs.declared.departure.Count.{Count}
use Rattle.departure_fits.specs.declared.departure.Fit.{Fit}
use Rattle.trip_fits.specs.declared.fit.Plan.{Plan}
use Rattle.line_fits.specs.Lines.{row_fit, best_of}
use Rattle.line_crowds.specs.Crowds.{is_crowded}

-- the row found, unless it is crowded
abbrev pub alone : (ℕ → Option Fit) → ℕ → Option ℕ → Option ℕ
alone fits n (Some b) = cond (is_crowded fits n b) None (Some b)
alone fits n None = None

-- the trip of the row found
abbrev pub trip_at : List ℕ → Plan → Option ℕ → Option ℕ
trip_at words p (Some k) = Some (cell_of words p.lines.trip k)
trip_at words p None = None

-- the trip of the line with the token that fits best, unless another is as likely
unfoldable pub line_trip : List ℕ → List ℕ → Plan → List ℕ → Count → Count → Option ℕ
line_trip bytes words p token today yesterday =
    let fits = row_fit bytes words p token today yesterday in trip_at words p (alone fits p.lines.trip.n (best_of fits p.lines.trip.n))

-- no token is over 96 bytes
pub record ShortTokens (bytes words : List ℕ) (p : Plan) : Type 0 where
  pub short : (k : ℕ) → k < p.lines.trip.n → length (id_of bytes words p.lines.token k) ≤ 96
