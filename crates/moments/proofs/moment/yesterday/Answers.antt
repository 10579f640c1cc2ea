use borrow.Author.Rules.{rules}
use native.Mathlib.Omega.{arith}
use mathlib.Core.Path.{◌≡◌, ◌∙◌, ap}
use mir.Syntax.{w64}
use mir.Facts.{to_z-of_z}
use Rattle.moments.specs.Moments.{today_of, yesterday_of}
use Rattle.moments.proofs.Counts.{ordinal_small, second_small}
use Rattle.moments.proofs.moment.yesterday.Goals as goal

pub overflow_sub-result : goal.overflow_sub-result
overflow_sub-result c = let t : c.today-t.result ≡ today_of c.args.local = c.today-t.ensures ∙ ap today_of (to_z-of_z {w = w64} c.ranges.local) in rw (t) (ordinal_small c.args.local c.requires).0

pub overflow_add-result : goal.overflow_add-result
overflow_add-result c = let t : c.today-t.result ≡ today_of c.args.local = c.today-t.ensures ∙ ap today_of (to_z-of_z {w = w64} c.ranges.local) in rw (t) (record { fits = omega (arith, second_small c.args.local) })

pub returns : goal.returns
unfolding yesterday_of
returns c = let t : c.today-t.result ≡ today_of c.args.local = c.today-t.ensures ∙ ap today_of (to_z-of_z {w = w64} c.ranges.local) in rw (t)
