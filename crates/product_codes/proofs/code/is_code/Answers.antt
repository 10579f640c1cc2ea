use borrow.Author.Tests.{eq-eqb, le-leb, lt-leb, ne_eqb}
use Rattle.product_codes.specs.Codes.{is_code}
use Rattle.product_codes.proofs.code.is_code.Goals as goal

pub returns-then-w-lt5 : goal.returns-then-w-lt5
unfolding is_code
returns-then-w-lt5 c = simp (lt-leb _ _ c.if-w-lt5.true)

pub returns-then-upper-ne67 : goal.returns-then-upper-ne67
unfolding is_code
returns-then-upper-ne67 c = rw (le-leb _ _ c.if-w-lt5.false, ← c.upper.ensures, ne_eqb _ _ c.if-upper-ne67.true)

pub returns : goal.returns
unfolding is_code
returns c = rw (le-leb _ _ c.if-w-lt5.false, ← c.upper.ensures, eq-eqb _ _ c.if-upper-ne67.false, c.digit_run.ensures, c.from-rest.ensures)
