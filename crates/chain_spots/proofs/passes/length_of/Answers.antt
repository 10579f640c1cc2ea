use Rattle.std.proofs.Common.{◌≡◌, suc, ◌+◌, sym, ap, ◌∙◌, subst, arith}
use Rattle.std.specs.Float.Ieee.{of_bits}
use Rattle.line_parts.specs.Part.{length_from, part_length}
use Rattle.line_parts.proofs.Sums.{no_sum, sum_next}
use Rattle.chain_vertices.specs.Vertices.{Stands}
use Rattle.chain_spots.proofs.Turns.{stretch_is}
use Rattle.chain_spots.proofs.passes.length_of.Goals as goal

pub loop-k-init : goal.loop-k-init
unfolding of_bits
loop-k-init c = record { within = omega arith; stands = c.seek-here.ensures; sum = sym (no_sum _ c.args.part.first) }

pub onward-there-requires : goal.onward-there-requires
onward-there-requires c = c.loop-k.invariant.stands

pub loop-k-preserved : goal.loop-k-preserved
loop-k-preserved c =
    let l = c.loop-k in
    let e : suc l.k ≡ l.k + 1 = omega arith in
    record {
      within = omega arith;
      stands = subst (Stands _ _ _) e c.onward-there.ensures;
      sum = rw (stretch_is _ _ _ _ _ _ l.invariant.stands c.onward-there.ensures c.metres-sum.ensures, l.invariant.sum) (sym (sum_next _ c.args.part.first l.k l.auto.k));
    }

pub returns : goal.returns
unfolding part_length
returns c = c.loop-k.invariant.sum ∙ ap (length_from _ _) (omega arith)
