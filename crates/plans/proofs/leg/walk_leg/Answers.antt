-- `plans::leg::walk_leg` meets its contract.
use borrow.Author.Rules.{rules}
use Rattle.walks.specs.Walk.{leg_walk}
use Rattle.plans.specs.Plan.{leg_between}
use Rattle.plans.proofs.leg.walk_leg.Goals as goal

pub path_of-path-requires : goal.path_of-path-requires
path_of-path-requires c = rw c.course-c.ensures c.requires

pub walk-requires : goal.walk-requires
walk-requires c = rw c.course-c.ensures c.requires

pub returns : goal.returns
unfolding leg_between leg_walk
returns c = rw (c.walk.ensures, c.path_of-path.ensures, c.course-c.ensures)
