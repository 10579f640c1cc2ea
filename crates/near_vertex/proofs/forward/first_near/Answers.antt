-- `near_vertex::forward::first_near` meets its contract.
use native.Mathlib.Omega.{arith}
use mathlib.Core.Path.{sym, ◌∙◌}
use lib.Ieee.{of_bits, of_int}
use Rattle.near_vertex.proofs.First.{first_from, first_marked}
use Rattle.near_vertex.proofs.forward.first_near.Goals as goal

pub overflow_sub-near : goal.overflow_sub-near
overflow_sub-near c = omega (arith, c.sweep-near.ensures.seen.ordered)

pub returns-then-near-from-eq1 : goal.returns-then-near-from-eq1
returns-then-near-from-eq1 c = let s = c.sweep-near in rw (← s.ensures.best) (first_marked _ _ _ s.result s.ensures (omega arith))

pub returns-else-near-from-eq1 : goal.returns-else-near-from-eq1
unfolding of_bits of_int
returns-else-near-from-eq1 c = let s = c.sweep-near in rw (← s.ensures.best) (c.first_within.ensures ∙ sym (first_from _ _ _ s.result s.ensures))
