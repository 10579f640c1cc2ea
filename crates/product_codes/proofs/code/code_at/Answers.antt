use mathlib.Core.Path.{◌∙◌, sym}
use Rattle.product_codes.specs.Codes.{code_at}
use Rattle.product_codes.proofs.code.code_at.Goals as goal

pub returns-then-begins_word : goal.returns-then-begins_word
unfolding code_at
returns-then-begins_word c = rw (c.is_code.ensures, c.word_of.ensures, c.from.ensures, sym c.begins_word.ensures ∙ c.if-begins_word.true)

pub returns : goal.returns
unfolding code_at
returns c = rw (sym c.begins_word.ensures ∙ c.if-begins_word.false)
