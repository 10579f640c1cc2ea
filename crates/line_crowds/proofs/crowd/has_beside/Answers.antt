use native.Mathlib.Omega.{arith}
use mathlib.Core.Bool.{true, false}
use mathlib.Core.Path.{◌∙◌, ◌≡◌, sym}
use Rattle.columns.proofs.Scan.{hit, on, over}
use Rattle.line_fits.specs.Asked.{fits_of}
use Rattle.line_crowds.specs.Crowds.{beside}
use Rattle.line_fits.proofs.Best.{after_line, before_line, on_line_fit}
use Rattle.line_fits.proofs.Lines.{within}
use Rattle.line_crowds.proofs.Beside.{is_beside_row, missed_rest, not_beside}
use Rattle.line_crowds.proofs.crowd.has_beside.Goals as goal

pub loop-k-init : goal.loop-k-init
loop-k-init c =
    let a = c.args in
    let s = a.line.now in
    record { before = λ j l. not_beside (fits_of s a.asked) a.b j (before_line s.timetable.lent.bytes.now s.timetable.lent.words.now s.timetable.plan s.token.now a.asked.today a.asked.yesterday s.planned s.from s.begins j l (omega (arith, within s))) }

pub returns-then-not-has : goal.returns-then-not-has
returns-then-not-has c =
    let a = c.args in
    let s = a.line.now in
    let off : c.has.result ≡ false = c.if-not-has.true in
    let never = after_line s.timetable.lent.bytes.now s.timetable.lent.words.now s.timetable.plan s.token.now a.asked.today a.asked.yesterday s.planned s.from s.begins c.loop-k.k (omega arith) (omega arith) (sym c.has.ensures ∙ off) in
    over s.timetable.plan.lines.trip.n (missed_rest (fits_of s a.asked) a.b c.loop-k.k s.timetable.plan.lines.trip.n c.loop-k.invariant never) (omega arith)

pub returns-then-is_beside : goal.returns-then-is_beside
returns-then-is_beside c =
    let a = c.args in
    let s = a.line.now in
    let on_it : c.has.result ≡ true = c.if-not-has.false in
    let fit = on_line_fit s.timetable.lent.bytes.now s.timetable.lent.words.now s.timetable.plan s.token.now a.asked.today a.asked.yesterday c.loop-k.k (sym c.has.ensures ∙ on_it) in
    let same : beside (fits_of s a.asked) a.b c.loop-k.k ≡ c.is_beside.result = sym (c.is_beside.ensures ∙ is_beside_row (fits_of s a.asked) a.b c.loop-k.k (c.fit_at.ensures ∙ sym fit) c.requires) in
    hit (beside (fits_of s a.asked) a.b) s.timetable.plan.lines.trip.n c.loop-k.k c.loop-k-test.true (same ∙ c.if-is_beside.true)

pub loop-k-preserved : goal.loop-k-preserved
loop-k-preserved c =
    let a = c.args in
    let s = a.line.now in
    let on_it : c.has.result ≡ true = c.if-not-has.false in
    let fit = on_line_fit s.timetable.lent.bytes.now s.timetable.lent.words.now s.timetable.plan s.token.now a.asked.today a.asked.yesterday c.loop-k.k (sym c.has.ensures ∙ on_it) in
    let same : beside (fits_of s a.asked) a.b c.loop-k.k ≡ c.is_beside.result = sym (c.is_beside.ensures ∙ is_beside_row (fits_of s a.asked) a.b c.loop-k.k (c.fit_at.ensures ∙ sym fit) c.requires) in
    on c.loop-k.invariant (same ∙ c.if-is_beside.false)

pub returns : goal.returns
returns c = over c.args.line.now.timetable.plan.lines.trip.n c.loop-k.invariant c.loop-k-test.false
