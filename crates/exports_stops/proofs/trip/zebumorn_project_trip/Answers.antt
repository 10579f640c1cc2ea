-- `exports_stops::trip::zebumorn_project_trip` meets its contract.
use borrow.Author.Rules.{rules}
use Rattle.exports_stops.proofs.trip.zebumorn_project_trip.Goals as goal

pub returns : goal.returns
returns c =
    let e = c.project_trip.ensures in record { value = rw (← e.result_value) c.tell_rows.ensures; out_after = e.out_after }
