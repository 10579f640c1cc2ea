-- `exports_timetable::dates::zebumorn_weekday_of` meets its contract: the weekday of the date's day.
use mir.Facts.{to_z-of_z}
use mir.Syntax.{w64}
use Rattle.exports_timetable.proofs.dates.zebumorn_weekday_of.Goals as goal

pub returns : goal.returns
returns c = rw (c.weekday.ensures, to_z-of_z {w = w64} (record { sfits = c.day_of.type_inv }), c.day_of.ensures)
