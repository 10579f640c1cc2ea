use borrow.Author.Tests.{eq-eqb, ne_eqb}
use Rattle.stop_keys.proofs.Keys.{no_digits, some_digits}
use Rattle.stop_names.proofs.name.or_text.Goals as goal

pub returns-then-d-eq0 : goal.returns-then-d-eq0
returns-then-d-eq0 c =
    let a = c.args in
    let t = a.stops.now in
    no_digits t.lent.bytes.now t.lent.words.now t.lookup a.feed.now a.text.now a.found c.or_stop-first.ensures
    (rw c.stop_digits-d.ensures at (eq-eqb _ _ c.if-d-eq0.true))

pub returns : goal.returns
returns c =
    let a = c.args in
    let t = a.stops.now in
    some_digits t.lent.bytes.now t.lent.words.now t.lookup a.feed.now a.text.now a.found c.or_stop-first.ensures
    (rw c.stop_digits-d.ensures at (ne_eqb _ _ c.if-d-eq0.false))
    (rw c.stop_digits-d.ensures at c.or_feed-second.ensures) (rw c.stop_digits-d.ensures at c.or_plain.ensures)
