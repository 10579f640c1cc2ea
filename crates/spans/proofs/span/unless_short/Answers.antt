use Rattle.std.proofs.Common.{rules}
use Rattle.std.specs.Float.Ieee.{of_bits, of_int, div}
use Rattle.spans.specs.Span.{spread}
use Rattle.spans.proofs.span.unless_short.Goals as goal

pub returns-then-abs : goal.returns-then-abs
unfolding spread div of_bits of_int
returns-then-abs c = search rules

pub returns-else-abs : goal.returns-else-abs
unfolding spread div of_bits of_int
returns-else-abs c = search rules
