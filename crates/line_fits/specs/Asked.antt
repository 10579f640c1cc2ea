-- How well the rows of a line fit the moment asked of.
use Rattle.std.specs.Prelude.{ℕ, Option}
use Rattle.departure_fits.specs.declared.departure.Fit.{Fit}
use Rattle.trip_fits.specs.declared.fit.Asked.{Asked}
use Rattle.line_fits.specs.Lines.{row_fit}
use Rattle.line_fits.specs.declared.line.Line.{Line}

-- how well each row fits; one of another line never does
abbrev pub fits_of : Line → Asked → ℕ → Option Fit
fits_of line asked = row_fit line.timetable.lent.bytes.now line.timetable.lent.words.now line.timetable.plan line.token.now asked.today asked.yesterday
