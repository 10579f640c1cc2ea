-- `paths::path::path_status` meets its contract.
use borrow.Author.Rules.{rules}
use Rattle.paths.proofs.path.path_status.Goals as goal

pub returns-in-ByDistance : goal.returns-in-ByDistance
returns-in-ByDistance c = rw c.in-ByDistance.is

pub returns-in-Polyline : goal.returns-in-Polyline
returns-in-Polyline c = rw c.in-Polyline.is

pub returns-in-Chain : goal.returns-in-Chain
returns-in-Chain c = rw c.in-Chain.is

pub returns-in-Straight : goal.returns-in-Straight
returns-in-Straight c = rw c.in-Straight.is
