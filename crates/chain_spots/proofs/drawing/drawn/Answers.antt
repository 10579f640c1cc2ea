-- `chain_spots::drawing::drawn` meets its contract.
use borrow.Author.Rules.{rules}
use Rattle.chain_spots.proofs.drawing.drawn.Goals as goal

pub returns-in-First : goal.returns-in-First
returns-in-First c = rw (c.in-First.is, c.first_drawn.ensures)

pub returns-in-Stretch : goal.returns-in-Stretch
returns-in-Stretch c = rw (c.in-Stretch.is, c.stretch_drawn.ensures)

pub returns-in-Straight : goal.returns-in-Straight
returns-in-Straight c = rw (c.in-Straight.is, c.straight_drawn.ensures)

pub returns-in-NoStretch : goal.returns-in-NoStretch
returns-in-NoStretch c = rw (c.in-NoStretch.is, c.last_drawn.ensures)
