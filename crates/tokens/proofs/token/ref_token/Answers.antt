use borrow.Author.Rules.{rules}
use borrow.Author.Tests.{eq-eqb, le-leb, lt-leb, ne_eqb}
use Rattle.tokens.specs.Tokens.{ref_token}
use Rattle.tokens.proofs.token.ref_token.Goals as goal

pub returns-then-s-lt5 : goal.returns-then-s-lt5
unfolding ref_token
returns-then-s-lt5 c = simp (lt-leb _ _ c.if-s-lt5.true)

pub returns-then-s-eq67 : goal.returns-then-s-eq67
unfolding ref_token
returns-then-s-eq67 c = simp (le-leb _ _ c.if-s-lt5.false, eq-eqb _ _ c.if-s-eq67.true)

pub returns : goal.returns
unfolding ref_token
returns c = simp (le-leb _ _ c.if-s-lt5.false, ne_eqb _ _ c.if-s-eq67.false)
