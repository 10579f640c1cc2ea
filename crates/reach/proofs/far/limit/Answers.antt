-- `reach::far::limit` meets its contract: past what was tried every way is longer, and past infinity there is nothing.
use lib.Ieee.{of_bits}
use Rattle.reach.proofs.Past.{holds, tried, past_infinity}
use Rattle.reach.proofs.far.limit.Goals as goal

pub returns-then-most-low : goal.returns-then-most-low
unfolding of_bits
returns-then-most-low c =
    record { longer = λ a. tried _ _ a (holds c.if-a.true) (rw (← c.root.ensures, ← c.low.ensures) (holds c.if-most-low.true)) }

pub returns-else-a : goal.returns-else-a
unfolding of_bits
returns-else-a c = past_infinity _
