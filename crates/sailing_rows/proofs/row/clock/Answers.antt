-- `sailing_rows::row::clock` meets its contract.

use Rattle.sailing_rows.proofs.row.clock.Goals as goal

pub returns : goal.returns
returns c = c.moment_at.ensures
