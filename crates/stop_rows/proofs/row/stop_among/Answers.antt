use Rattle.std.specs.Prelude.{Some}
use native.Mathlib.Omega.{arith}
use mathlib.Core.Path.{◌∙◌, ap, sym}
use Rattle.ids.proofs.Search.{first_hit, first_miss}
use Rattle.stop_rows.specs.Rows.{row_from, stop_from}
use Rattle.stop_rows.proofs.row.stop_among.Goals as goal

pub returns-then-is_row : goal.returns-then-is_row
returns-then-is_row c =
    let a = c.args in
    ap Some c.cell.ensures
    ∙ ap (stop_from a.lent.now.bytes.now a.lent.now.words.now a.l a.from)
    (first_hit (row_from a.lent.now.bytes.now a.lent.now.words.now a.l a.sequence a.from) a.n c.loop-k.k c.loop-k-test.true (sym c.is_row.ensures ∙ c.if-is_row.true) c.loop-k.invariant)

pub returns : goal.returns
returns c =
    let a = c.args in
    ap (stop_from a.lent.now.bytes.now a.lent.now.words.now a.l a.from)
    (first_miss (row_from a.lent.now.bytes.now a.lent.now.words.now a.l a.sequence a.from) a.n (λ j m. c.loop-k.invariant j (omega arith)))
