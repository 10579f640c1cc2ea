use mathlib.Core.Path.{◌∙◌}
use Rattle.product_codes.specs.Codes.{product_code}
use Rattle.parts.proofs.Either.{or_empty, or_some}
use Rattle.product_codes.proofs.code.product_code.Goals as goal

pub returns-then-w-eq0 : goal.returns-then-w-eq0
unfolding product_code
returns-then-w-eq0 c = rw (← c.line_word-w.ensures) (c.code_word.ensures ∙ or_empty c.line_word-w.result.now _ c.if-w-eq0.true)

pub returns : goal.returns
unfolding product_code
returns c = rw (← c.line_word-w.ensures) (or_some c.line_word-w.result.now _ c.if-w-eq0.false)
