use borrow.Author.Rules.{rules}
use Rattle.trip_ids.proofs.trip.trip_at.Goals as goal

pub returns-in-Some : goal.returns-in-Some
returns-in-Some c = simp (c.in-Some.is, c.cell.ensures)
