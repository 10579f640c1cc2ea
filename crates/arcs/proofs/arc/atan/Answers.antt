use mathlib.Core.Path.{ap, ◌∙◌}
use lib.Ieee.{of_bits}
use Rattle.arcs.specs.Arcs.{atan_of, four_times, halve_of}
use Rattle.arcs.proofs.arc.atan.Goals as goal

pub returns : goal.returns
unfolding atan_of of_bits
returns c = ap four_times (c.halve-s.ensures ∙ ap halve_of c.halve.ensures)
