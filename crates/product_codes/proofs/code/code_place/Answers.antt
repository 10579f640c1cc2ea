use mathlib.Core.Path.{◌∙◌, sym}
use Rattle.ids.proofs.Search.{first_hit}
use Rattle.product_codes.specs.Codes.{code_at}
use Rattle.product_codes.proofs.code.code_place.Goals as goal

pub returns-then-code_at : goal.returns-then-code_at
returns-then-code_at c = first_hit (code_at c.args.s.now) _ c.loop-k.k c.loop-k-test.true (sym c.code_at.ensures ∙ c.if-code_at.true) c.loop-k.invariant
