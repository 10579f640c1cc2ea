use Rattle.stop_rows.specs.Rows.{row_stop}
use Rattle.stop_rows.proofs.row.row_stop.Goals as goal

pub returns : goal.returns
unfolding row_stop
returns c = rw (c.stop_among.ensures, c.cell-n.ensures, c.cell-from.ensures)
