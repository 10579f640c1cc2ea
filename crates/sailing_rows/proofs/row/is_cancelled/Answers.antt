-- `sailing_rows::row::is_cancelled` meets its contract.

use Rattle.sailing_rows.proofs.row.is_cancelled.Goals as goal

pub returns : goal.returns
returns c = c.is_set.ensures
