-- `trip_records::zebumorn_backfill_records` meets its contract: refused, with all as it was, or the core's answers in the records.
use mathlib.Core.Path.{◌≡◌, sym, ◌∙◌}
use Rattle.filled_records.proofs.Told.{code_is, stay, bounds, written}
use Rattle.trip_records.proofs.zebumorn_backfill_records.Goals as goal

pub returns-then-code-ne0 : goal.returns-then-code-ne0
returns-then-code-ne0 c =
    let a = c.args in
    let e = code_is a.r.now a.bytes.now a.words.now a.reals.now a.l a.at.now a.dists.now a.known.now c.stop_count-m.ensures c.scan-c.ensures c.check_lent-lent.ensures c.verdict-code.ensures in
    let s = stay a.r.now a.bytes.now a.words.now a.reals.now a.l a.at.now a.dists.now a.known.now e c.if-code-ne0.true in
    (e, s.0, s.1, s.2, s.3)

pub write_records-requires : goal.write_records-requires
write_records-requires c =
    let a = c.args in
    let e = code_is a.r.now a.bytes.now a.words.now a.reals.now a.l a.at.now a.dists.now a.known.now c.stop_count-m.ensures c.scan-c.ensures c.check_lent-lent.ensures c.verdict-code.ensures in
    bounds a.r.now a.bytes.now a.words.now a.reals.now a.l a.at.now a.dists.now a.known.now (sym e ∙ c.if-code-ne0.false)

pub returns : goal.returns
returns c =
    let a = c.args in
    let e = code_is a.r.now a.bytes.now a.words.now a.reals.now a.l a.at.now a.dists.now a.known.now c.stop_count-m.ensures c.scan-c.ensures c.check_lent-lent.ensures c.verdict-code.ensures in
    let z = sym e ∙ c.if-code-ne0.false in
    let w = written a.r.now a.bytes.now a.words.now a.reals.now a.l a.at.now a.dists.now a.known.now z in
    (sym z, rw c.write_records.ensures.0 w.0, rw c.write_records.ensures.1 w.1, rw c.write_records.ensures.2 w.2, rw c.write_records.ensures.3 w.3)
