-- `sailing_rows::row::base_key` meets its contract.

use Rattle.sailing_rows.proofs.row.base_key.Goals as goal

pub returns : goal.returns
returns c = rw (c.base.ensures, c.id.ensures)
