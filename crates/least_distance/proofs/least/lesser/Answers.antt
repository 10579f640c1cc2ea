-- `least_distance::least::lesser` meets its contract.
use mathlib.Core.Path.{sym, ◌∙◌}
use Rattle.least_distance.proofs.least.lesser.Goals as goal

pub returns-then-is_beyond : goal.returns-then-is_beyond
returns-then-is_beyond c = record { best = rw (c.requires.longer c.args.a (sym c.is_beyond.ensures ∙ c.if-is_beyond.true)); beyond = c.requires }

pub returns-then-d-least : goal.returns-then-d-least
returns-then-d-least c = record { best = rw (← c.way-d.ensures, c.if-d-least.true); beyond = c.far.ensures }

pub returns : goal.returns
returns c = record { best = rw (← c.way-d.ensures, c.if-d-least.false); beyond = c.requires }
