use mathlib.Core.Path.{◌∙◌, sym}
use Rattle.trip_times.specs.Line.{line_trip}
use Rattle.line_fits.proofs.Best.{best_on_line, on_line_fit}
use Rattle.trip_times.proofs.line.by_line.Goals as goal

pub returns-in_err-best : goal.returns-in_err-best
unfolding line_trip
returns-in_err-best c = rw (← c.new-line.ensures.timetable_is, ← c.new-line.ensures.token_is, ← c.best_of.ensures, c.in_err-best.was, c.from_residual.ensures)

pub crowded-requires : goal.crowded-requires
crowded-requires c =
    let s = c.new-line.result in
    let a = c.args.asked in
    let on = best_on_line s.timetable.lent.bytes.now s.timetable.lent.words.now s.timetable.plan s.token.now a.today a.yesterday s.timetable.plan.lines.trip.n _ (sym c.best_of.ensures ∙ c.in_ok-best.was) in
    c.fit_at.ensures ∙ sym (on_line_fit s.timetable.lent.bytes.now s.timetable.lent.words.now s.timetable.plan s.token.now a.today a.yesterday _ on)

pub returns-then-crowded : goal.returns-then-crowded
unfolding line_trip
returns-then-crowded c = rw (← c.new-line.ensures.timetable_is, ← c.new-line.ensures.token_is, ← c.best_of.ensures, c.in_ok-best.was, ← c.crowded.ensures, c.if-crowded.true)

pub returns : goal.returns
unfolding line_trip
returns c = rw (← c.new-line.ensures.timetable_is, ← c.new-line.ensures.token_is, ← c.best_of.ensures, c.in_ok-best.was, ← c.crowded.ensures, c.if-crowded.false, c.trip_at.ensures)
