use borrow.Author.Rules.{rules}
use mathlib.Core.Path.{◌∙◌, sym}
use Rattle.texts.proofs.begins.Reads as begins-reads
use Rattle.parts.proofs.from.Reads as from-reads
use Rattle.key_parts.proofs.key.raw.Goals as goal

pub returns-then-begins : goal.returns-then-begins
returns-then-begins c = rw (c.from.ensures, sym c.begins.ensures ∙ c.if-begins.true)

pub returns-then-begins-2 : goal.returns-then-begins-2
returns-then-begins-2 c = rw (c.from-then-begins-2.ensures, sym c.begins.ensures ∙ c.if-begins.false, sym c.begins-2.ensures ∙ c.if-begins-2.true)

pub returns : goal.returns
returns c = rw (sym c.begins.ensures ∙ c.if-begins.false, sym c.begins-2.ensures ∙ c.if-begins-2.false)
