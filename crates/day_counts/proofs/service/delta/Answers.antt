-- `day_counts::service::delta` meets its contract: the difference either way fits, and the test picks the one that is not negative.
use mathlib.Core.Path.{◌≡◌}
use mathlib.Core.Bool.{true, false}
use lib.IntN.{ℤ, ◌-ℤ◌}
use lib.Signed.{lt_z}
use mir.Syntax.{w64}
use mir.Val.{SFits}
use mir.Facts.{to_z-of_z}
use Rattle.day_counts.specs.Service.{Near, apart}
use Rattle.day_counts.proofs.Signed.{back, sub_fits}
use Rattle.day_counts.proofs.service.delta.Goals as goal

module _ (a b : ℤ) (near : Near a b) (f : SFits w64 a) (g : SFits w64 b) where
  less : SFits w64 (b -ℤ a)
  less = sub_fits b a (record { left = near.right; right = near.left })

  up_fits : SFits w64 (back b -ℤ back a)
  up_fits = rw (to_z-of_z f, to_z-of_z g) less

  down_fits : SFits w64 (back a -ℤ back b)
  down_fits = rw (to_z-of_z f, to_z-of_z g) (sub_fits a b near)

  apart_up : lt_z (back a) (back b) ≡ true → back (back b -ℤ back a) ≡ apart a b
  unfolding apart
  apart_up e =
      let h : lt_z a b ≡ true = rw (to_z-of_z f, to_z-of_z g) at e in
      rw (to_z-of_z f, to_z-of_z g, h) (to_z-of_z less)

  apart_down : lt_z (back a) (back b) ≡ false → back (back a -ℤ back b) ≡ apart a b
  unfolding apart
  apart_down e =
      let h : lt_z a b ≡ false = rw (to_z-of_z f, to_z-of_z g) at e in
      rw (to_z-of_z f, to_z-of_z g, h) (to_z-of_z (sub_fits a b near))

pub overflow_sub-result : goal.overflow_sub-result
overflow_sub-result c = up_fits c.args.a c.args.b c.requires c.ranges.a c.ranges.b

pub overflow_sub-result-else-a-b : goal.overflow_sub-result-else-a-b
overflow_sub-result-else-a-b c = down_fits c.args.a c.args.b c.requires c.ranges.a c.ranges.b

pub returns-then-a-b : goal.returns-then-a-b
returns-then-a-b c = apart_up c.args.a c.args.b c.requires c.ranges.a c.ranges.b c.if-a-b.true

pub returns-else-a-b : goal.returns-else-a-b
returns-else-a-b c = apart_down c.args.a c.args.b c.requires c.ranges.a c.ranges.b c.if-a-b.false
