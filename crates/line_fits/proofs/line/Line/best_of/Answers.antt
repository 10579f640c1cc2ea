use native.Mathlib.Omega.{arith}
use mathlib.Core.Bool.{true, false}
use mathlib.Core.Path.{◌∙◌, ◌≡◌, ap, sym}
use Rattle.line_fits.specs.Asked.{fits_of}
use Rattle.line_fits.specs.Lines.{best_of}
use Rattle.line_fits.proofs.Best.{after_line, before_line, next, none_more, none_yet, on_line_fit}
use Rattle.line_fits.proofs.Lines.{within}
use Rattle.line_fits.proofs.line.Line.best_of.Goals as goal

pub loop-k-init : goal.loop-k-init
loop-k-init c =
    let a = c.args in
    let s = a.self.now in
    let none = none_yet (fits_of s a.asked) s.from (λ j l. before_line s.timetable.lent.bytes.now s.timetable.lent.words.now s.timetable.plan s.token.now a.asked.today a.asked.yesterday s.planned s.from s.begins j l (omega (arith, within s))) in
    rw none

pub returns-then-not-has : goal.returns-then-not-has
returns-then-not-has c =
    let a = c.args in
    let s = a.self.now in
    let off : c.has.result ≡ false = c.if-not-has.true in
    ap (λ (b : _). b.at) c.loop-k.invariant
    ∙ sym (none_more (fits_of s a.asked) s.timetable.plan.lines.trip.n c.loop-k.k (omega arith) (after_line s.timetable.lent.bytes.now s.timetable.lent.words.now s.timetable.plan s.token.now a.asked.today a.asked.yesterday s.planned s.from s.begins c.loop-k.k (omega arith) (omega arith) (sym c.has.ensures ∙ off)))

pub loop-k-preserved : goal.loop-k-preserved
loop-k-preserved c =
    let a = c.args in
    let s = a.self.now in
    let on : c.has.result ≡ true = c.if-not-has.false in
    let fit = on_line_fit s.timetable.lent.bytes.now s.timetable.lent.words.now s.timetable.plan s.token.now a.asked.today a.asked.yesterday c.loop-k.k (sym c.has.ensures ∙ on) in
    rw (c.kept-best.ensures, c.loop-k.invariant, c.away_of.ensures, c.fit_at.ensures, ← fit) (next (fits_of s a.asked) c.loop-k.k)

pub returns : goal.returns
returns c =
    let a = c.args in
    let s = a.self.now in
    let e : c.loop-k.k ≡ s.timetable.plan.lines.trip.n = omega (arith, within s) in
    ap (λ (b : _). b.at) c.loop-k.invariant ∙ ap (best_of (fits_of s a.asked)) e
