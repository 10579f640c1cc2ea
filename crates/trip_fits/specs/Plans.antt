-- What the tables that a trip is found in by its line and time must be.
use Rattle.std.specs.Prelude.{ℕ, List}
use Rattle.row_lookup.specs.Rows.{InOrder}
use Rattle.row_stands.specs.declared.rows.Rows.TheVariants.{Lines}
use Rattle.services.specs.Runs.{Calendared}
use Rattle.trip_fits.specs.declared.fit.Plan.{Plan}

-- the line entries and the calendar tables ascend
pub record Planned (bytes words : List ℕ) (p : Plan) : Type 0 where
  pub lines : InOrder bytes words (Lines p.lines.token) p.lines.trip.n
  pub calendars : Calendared bytes words p.calendars p.ranges p.exceptions
