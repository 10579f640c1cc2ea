use borrow.Author.Rules.{rules}
use mathlib.Core.Path.{◌∙◌}
use Rattle.departure_fits.proofs.Since.{read, sinces_near, size, unsigned}
use Rattle.departure_fits.proofs.departure.seconds_apart.Goals as goal

pub delta-requires : goal.delta-requires
delta-requires c = let a = c.args in let f = c.ranges in rw (read _ c.seconds_since.type_inv, read _ c.seconds_since-2.type_inv, c.seconds_since.ensures, c.seconds_since-2.ensures) (sinces_near a.s a.c a.t a.d f.s f.c f.t f.d)

pub overflow_cast-result : goal.overflow_cast-result
overflow_cast-result c = unsigned _ _ c.delta.ensures c.delta.type_inv

pub returns : goal.returns
returns c = size _ _ c.delta.ensures c.delta.type_inv ∙ rw (read _ c.seconds_since.type_inv, read _ c.seconds_since-2.type_inv, c.seconds_since.ensures, c.seconds_since-2.ensures)
