use mathlib.Core.Path.{sym}
use Rattle.tables.specs.Pools.{pools_of}
use Rattle.timetable.specs.Answers.{matched_of}
use Rattle.timetable.proofs.Holds.{ready, local_in_reach}
use Rattle.answers.proofs.Told.{told, handed_on}
use Rattle.timetable.proofs.matched.match_trip.Goals as goal

pub returns-in_err-check_matching : goal.returns-in_err-check_matching
unfolding matched_of
returns-in_err-check_matching c = handed_on _ _ _ _ c.from_residual.ensures.1 (rw c.chart.ensures at c.in_err-check_matching.ensures)

pub trip_of-requires : goal.trip_of-requires
trip_of-requires c =
    let a = c.args in
    let e = rw c.chart.ensures at (sym c.in_ok-check_matching.ensures) in record { ready = ready (pools_of a.lent.now) a.t a.j e; in_reach = local_in_reach (pools_of a.lent.now) a.t a.j e }

pub returns : goal.returns
unfolding matched_of
returns c = rw (← c.trip_of.ensures) (told _ _ (sym (rw c.chart.ensures at c.in_ok-check_matching.ensures)))
