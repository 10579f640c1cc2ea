use borrow.Author.Rules.{rules}
use borrow.Author.Tests.{le-ltb, lt-ltb}
use Rattle.lent_distances.specs.Distances.{by_dist_lent}
use Rattle.lent_distances.proofs.distances.between_distances.Goals as goal

pub returns-then-d-lt2 : goal.returns-then-d-lt2
unfolding by_dist_lent
returns-then-d-lt2 c = rw (lt-ltb _ _ c.if-d-lt2.true)

pub returns-then-x-lt1 : goal.returns-then-x-lt1
unfolding by_dist_lent
returns-then-x-lt1 c = rw (le-ltb _ _ c.if-d-lt2.false, lt-ltb _ _ c.if-x-lt1.true)

pub returns : goal.returns
unfolding by_dist_lent
returns c = rw (le-ltb _ _ c.if-d-lt2.false, le-ltb _ _ c.if-x-lt1.false) c.interpolate_shape_by_dist.ensures
