use borrow.Author.Rules.{rules}
use mathlib.Core.Path.{◌∙◌, sym, ap}
use Rattle.tokens.specs.Tokens.{token_of}
use Rattle.parts.proofs.Either.{or_empty, or_some}
use Rattle.tokens.proofs.token.journey_token.Reads as journey-token-reads
use Rattle.product_codes.proofs.product_code.Reads as product-code-reads
use Rattle.tokens.proofs.token.token_of.Goals as goal

pub returns-then-t-eq0 : goal.returns-then-t-eq0
unfolding token_of
returns-then-t-eq0 c = rw (← c.product_code-t.ensures) (c.journey_token.ensures ∙ or_empty c.product_code-t.result.now _ c.if-t-eq0.true)

pub returns : goal.returns
unfolding token_of
returns c = rw (← c.product_code-t.ensures) (or_some c.product_code-t.result.now _ c.if-t-eq0.false)
