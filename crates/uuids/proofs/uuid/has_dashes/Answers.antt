use borrow.Author.Rules.{rules}
use borrow.Author.Tests.{eq-eqb, ne_eqb}
use mathlib.Core.Path.{◌≡◌}
use mathlib.Core.Bool.{Bool, true, ◌&&◌}
use Rattle.uuids.proofs.uuid.has_dashes.Goals as goal

-- Of five tests four hold: the fifth decides.
last_of_five : (a b c d e : Bool) → a ≡ true → b ≡ true → c ≡ true → d ≡ true → e ≡ (a && (b && (c && (d && e))))
last_of_five a b c d e p q r s = simp (p, q, r, s)

pub returns-then-s-ne36 : goal.returns-then-s-ne36
returns-then-s-ne36 c = simp (ne_eqb _ _ c.if-s-ne36.true)

pub returns-then-s-ne45 : goal.returns-then-s-ne45
returns-then-s-ne45 c = simp (eq-eqb _ _ c.if-s-ne36.false, ne_eqb _ _ c.if-s-ne45.true)

pub returns-then-s-ne45-2 : goal.returns-then-s-ne45-2
returns-then-s-ne45-2 c = simp (eq-eqb _ _ c.if-s-ne36.false, eq-eqb _ _ c.if-s-ne45.false, ne_eqb _ _ c.if-s-ne45-2.true)

pub returns-then-s-ne45-3 : goal.returns-then-s-ne45-3
returns-then-s-ne45-3 c = simp (eq-eqb _ _ c.if-s-ne36.false, eq-eqb _ _ c.if-s-ne45.false, eq-eqb _ _ c.if-s-ne45-2.false, ne_eqb _ _ c.if-s-ne45-3.true)

pub returns : goal.returns
returns c = last_of_five _ _ _ _ _ (eq-eqb _ _ c.if-s-ne36.false) (eq-eqb _ _ c.if-s-ne45.false) (eq-eqb _ _ c.if-s-ne45-2.false) (eq-eqb _ _ c.if-s-ne45-3.false)
