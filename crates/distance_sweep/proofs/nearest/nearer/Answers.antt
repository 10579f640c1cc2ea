-- `distance_sweep::nearest::nearer` meets its contract.
use mathlib.Core.Path.{sym, ◌∙◌}
use lib.Ieee.{of_bits, of_int}
use Rattle.distance_sweep.proofs.Skip.{skipped}
use Rattle.distance_sweep.proofs.Remembered.{next_same, next_kept, next_marked}
use Rattle.distance_sweep.proofs.nearest.nearer.Goals as goal

pub returns-then-is_beyond : goal.returns-then-is_beyond
returns-then-is_beyond c = record { next = next_same c.args.near _ _ _ (skipped _ c.args.a (c.requires.longer c.args.a (sym c.is_beyond.ensures ∙ c.if-is_beyond.true))); beyond = c.requires }

pub returns-then-near-most : goal.returns-then-near-most
unfolding of_bits of_int
returns-then-near-most c = record { next = rw (← c.way-d.ensures) (next_kept c.args.near c.way-d.result _ _ c.if-d-near.true c.if-near-most.true); beyond = c.far.ensures }

pub returns-then-d-near : goal.returns-then-d-near
unfolding of_bits of_int
returns-then-d-near c = record { next = rw (← c.way-d.ensures) (next_marked c.args.near c.way-d.result _ _ c.if-d-near.true c.if-near-most.false); beyond = c.far-then-d-near.ensures }

pub returns : goal.returns
returns c = record { next = rw (← c.way-d.ensures) (next_same c.args.near c.way-d.result _ _ c.if-d-near.false); beyond = c.requires }
