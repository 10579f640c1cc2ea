use borrow.Author.Rules.{rules}
use native.Mathlib.Omega.{arith}
use mathlib.Core.Path.{◌≡◌, ◌∙◌, ap}
use mir.Syntax.{w64}
use mir.Facts.{to_z-of_z}
use Rattle.day_counts.specs.Service.{service_day_of}
use Rattle.moments.proofs.Counts.{ordinal_read, ordinal_small, second_read, second_small, sum_fits, unsigned}
use Rattle.moments.proofs.moment.today.Goals as goal

pub overflow_add-result : goal.overflow_add-result
overflow_add-result c = let s : c.at-at.result ≡ service_day_of c.args.local = c.at-at.ensures.value ∙ ap service_day_of (to_z-of_z {w = w64} c.ranges.local) in rw (s) (sum_fits c.args.local c.requires)

pub overflow_cast-result : goal.overflow_cast-result
overflow_cast-result c = let s : c.at-at.result ≡ service_day_of c.args.local = c.at-at.ensures.value ∙ ap service_day_of (to_z-of_z {w = w64} c.ranges.local) in rw (s) (unsigned _ _ (ordinal_read c.args.local c.requires) (omega (arith, ordinal_small c.args.local c.requires)))

pub overflow_cast-result-2 : goal.overflow_cast-result-2
overflow_cast-result-2 c = let s : c.at-at.result ≡ service_day_of c.args.local = c.at-at.ensures.value ∙ ap service_day_of (to_z-of_z {w = w64} c.ranges.local) in let z = c.args.local in rw (s) (unsigned _ _ (second_read z) (omega (arith, second_small z)))

pub returns : goal.returns
returns c = let s : c.at-at.result ≡ service_day_of c.args.local = c.at-at.ensures.value ∙ ap service_day_of (to_z-of_z {w = w64} c.ranges.local) in rw (s, ordinal_read c.args.local c.requires, second_read c.args.local)
