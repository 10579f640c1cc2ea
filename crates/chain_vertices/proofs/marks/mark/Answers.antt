use Rattle.std.proofs.Common.{◌≡◌, ℕ, ◌/◌, ◌<◌, length, refl, ap, ◌∙◌, arith}
use Rattle.chain_lines.specs.Chain.{stop_of}
use Rattle.chain_lines.specs.Stops.{points_below}
use Rattle.chain_lines.specs.Thin.{thinned}
use Rattle.chain_lines.specs.Kept.{last_or}
use Rattle.chain_lines.specs.declared.kept.Last.{Last}
use Rattle.chain_vertices.proofs.Bits.{begins, low}
use Rattle.chain_vertices.proofs.Marking.{marks_next, last_next}
use Rattle.chain_lines.proofs.Thinning.{kept_below, at_most}
use Rattle.chain_vertices.proofs.marks.mark.Goals as goal

pub loop-i-init : goal.loop-i-init
unfolding points_below thinned last_or
loop-i-init c = record { begun = begins _ _ _ refl c.requires.by_index; last = rw c.no_point.ensures }

pub put-requires : goal.put-requires
put-requires c = record { i_in_bounds = omega (arith, c.loop-i.invariant.begun.long, c.requires.count_bound); i_bound = low _ _ _ _ c.loop-i.invariant.begun }

pub after-last-requires : goal.after-last-requires
after-last-requires c =
    let a = c.args in
    let l = c.loop-i in
    omega (arith, ap (λ (x : Last). x.kept) l.invariant.last, at_most (stop_of a.lent.now.bytes.now a.lent.now.words.now a.lent.now.reals.now a.s a.c a.chain) l.i)

pub loop-i-preserved : goal.loop-i-preserved
loop-i-preserved c =
    let a = c.args in
    let l = c.loop-i in
    let room : l.i / 64 < length a.marks.now = omega (arith, c.requires.count_bound) in
    record {
      begun = marks_next _ l.i _ _ _ l.invariant.last c.stop_of-stop.ensures c.keeps-keep.ensures _ _ _ l.invariant.begun room c.put.ensures;
      last = last_next _ l.i _ _ _ l.invariant.last c.stop_of-stop.ensures c.keeps-keep.ensures _ c.after-last.ensures;
    }

pub shape_of-marks : goal.shape_of-marks
shape_of-marks c = omega (arith, c.loop-i.invariant.begun.long)

pub returns : goal.returns
returns c =
    let a = c.args in
    let l = c.loop-i in
    let e : l.i ≡ a.chain.count = omega arith in
    let kept = kept_below (stop_of a.lent.now.bytes.now a.lent.now.words.now a.lent.now.reals.now a.s a.c a.chain) in
    record { value = ap (λ (x : Last). x.kept) l.invariant.last ∙ ap (λ (n : ℕ). length (kept n)) e; marked = λ j h. l.invariant.begun.right j (omega arith) }
