use Rattle.std.proofs.Common.{◌≡◌, refl, rules}
use Rattle.std.specs.Float.{binary64}
use Rattle.std.specs.Float.Ieee.{div, of_bits, of_int}
use Rattle.routes.specs.Route.{nano, inside_of}
use Rattle.routes.proofs.route.inside.Goals as goal

nano_is : of_bits binary64 0x3e112e0be826d695 ≡ nano
unfolding nano of_bits of_int div
nano_is = refl

pub returns-then-route : goal.returns-then-route
unfolding inside_of of_bits of_int
returns-then-route c = search rules

pub returns-else-route : goal.returns-else-route
unfolding inside_of of_bits of_int
returns-else-route c = rw (c.if-route.false, ← nano_is) c.stretch_at.ensures
