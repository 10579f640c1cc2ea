use borrow.Author.Rules.{rules}
use mathlib.Core.Path.{◌∙◌, sym, ap}
use mathlib.Core.Bool.{Bool, cond}
use Prim.Native.Nat.{ℕ}
use Rattle.stop_projection.proofs.Refusals.{unequal, too_many, point_off, stop_decides}
use Rattle.stop_projection.proofs.step.check_step.Goals as goal

pub returns-then-line : goal.returns-then-line
returns-then-line c = unequal _ _ _ c.if-line.true

pub returns-then-line-gt8192 : goal.returns-then-line-gt8192
returns-then-line-gt8192 c = too_many _ _ _ c.if-line.false c.if-line-gt8192.true

pub returns-then-off_globe : goal.returns-then-off_globe
returns-then-off_globe c = point_off _ _ _ c.if-line.false c.if-line-gt8192.false _ c.off_globe.ensures c.if-off_globe.true

pub returns-then-on_globe : goal.returns-then-on_globe
returns-then-on_globe c = sym (ap (λ (s : Bool). cond {A = ℕ} s 0 3) c.if-on_globe.true) ∙ stop_decides _ _ _ c.if-line.false c.if-line-gt8192.false _ c.off_globe.ensures c.if-off_globe.false c.on_globe.ensures

pub returns : goal.returns
returns c = sym (ap (λ (s : Bool). cond {A = ℕ} s 0 3) c.if-on_globe.false) ∙ stop_decides _ _ _ c.if-line.false c.if-line-gt8192.false _ c.off_globe.ensures c.if-off_globe.false c.on_globe.ensures
