-- `call_places::call::call_end` meets its contract.
use borrow.Author.Rules.{rules}
use Rattle.call_places.proofs.call.call_end.Goals as goal

pub returns : goal.returns
returns c = rw (c.stop_point.ensures, c.cell.ensures, c.word-stop.ensures, c.word-row.ensures)
