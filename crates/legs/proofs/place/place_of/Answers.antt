-- `legs::place::place_of` meets its contract.
use borrow.Author.Rules.{rules}
use Rattle.legs.proofs.place.place_of.Goals as goal

pub returns-in-First : goal.returns-in-First
returns-in-First c = rw c.in-First.is

pub returns-in-Stretch : goal.returns-in-Stretch
returns-in-Stretch c = rw c.in-Stretch.is

pub returns-in-Straight : goal.returns-in-Straight
returns-in-Straight c = rw c.in-Straight.is

pub returns-in-NoStretch : goal.returns-in-NoStretch
returns-in-NoStretch c = rw c.in-NoStretch.is
