-- `row_tests::row::named` meets its contract.
use mathlib.Core.Path.{sym, ◌∙◌}
use Rattle.row_tests.proofs.Rows.{above_zero}
use Rattle.row_tests.specs.Rows.{is_named}
use Rattle.row_tests.proofs.row.named.Goals as goal

pub returns-then-same : goal.returns-then-same
unfolding is_named
returns-then-same c =
    rw (← c.id-target.ensures, ← c.id.ensures, sym c.same.ensures ∙ c.if-same.true)

pub returns-then-part-eq0 : goal.returns-then-part-eq0
unfolding is_named
returns-then-part-eq0 c =
    rw (← c.id-target.ensures, ← c.id.ensures, sym c.same.ensures ∙ c.if-same.false, ← c.id-part.ensures, c.if-part-eq0.true)

pub returns : goal.returns
unfolding is_named
returns c =
    rw (← c.id-target.ensures, ← c.id.ensures, sym c.same.ensures ∙ c.if-same.false, ← c.id-part.ensures, above_zero _ c.if-part-eq0.false) c.contains.ensures
