-- `journey_points::stitch::draw_one` meets its contract.
use borrow.Author.Rules.{rules}
use Rattle.point_columns.specs.Sheet.{draw_one}
use Rattle.journey_points.proofs.stitch.draw_one.Goals as goal

pub returns : goal.returns
unfolding draw_one
returns c =
    let p = c.put-at.ensures in
    record { sheet_after = rw (p.lat_after, p.lon_after, c.later.ensures, p.value, c.next-drawn.ensures); same = p.same }
