-- `walks::walked::inside_leg` meets its contract.
use borrow.Author.Rules.{rules}
use Rattle.leg_paths.proofs.Choice.{shape_is}
use Rattle.walks.proofs.walked.inside_leg.Goals as goal

pub chain_walked-requires : goal.chain_walked-requires
chain_walked-requires c = c.requires

pub returns-in-ByDistance : goal.returns-in-ByDistance
returns-in-ByDistance c =
    let a = c.args in
    let s = shape_is a.lent.now.bytes.now a.lent.now.words.now a.lent.now.reals.now a.c a.trip _ _ _ c.leg_span-points.ensures c.shape_column-lat.ensures c.shape_column-lon.ensures in
    rw (c.in-ByDistance.is, c.distance_walk.ensures, s)

pub returns-in-Polyline : goal.returns-in-Polyline
returns-in-Polyline c =
    let a = c.args in
    let s = shape_is a.lent.now.bytes.now a.lent.now.words.now a.lent.now.reals.now a.c a.trip _ _ _ c.leg_span-points.ensures c.shape_column-lat.ensures c.shape_column-lon.ensures in
    rw (c.in-Polyline.is, c.route_walk.ensures, s)

pub returns-in-Chain : goal.returns-in-Chain
returns-in-Chain c = rw (c.in-Chain.is, c.chain_walked.ensures)

pub returns-in-Straight : goal.returns-in-Straight
returns-in-Straight c = rw (c.in-Straight.is, c.straight_walk.ensures)
