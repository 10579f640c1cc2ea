use borrow.Author.Rules.{rules}
use mathlib.Core.Path.{◌∙◌, sym}
use native.Mathlib.Omega.{arith}
use Rattle.texts.proofs.Trims.{suffix_fits}
use Rattle.key_parts.specs.Words.{loc}
use Rattle.texts.proofs.ends_with.Reads as ends-with-reads
use Rattle.parts.proofs.first.Reads as first_reads
use Rattle.key_parts.proofs.key.without_loc.Goals as goal

pub overflow_sub-s : goal.overflow_sub-s
overflow_sub-s c = omega (arith, suffix_fits loc c.args.s.now (sym c.ends_with.ensures ∙ c.if-ends_with.true))

pub returns-then-ends_with : goal.returns-then-ends_with
returns-then-ends_with c = rw (c.first.ensures, sym c.ends_with.ensures ∙ c.if-ends_with.true)

pub returns : goal.returns
returns c = rw (sym c.ends_with.ensures ∙ c.if-ends_with.false)
