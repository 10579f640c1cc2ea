-- The rows before i are marked, and `last` is the last of them that is kept.
use Rattle.std.proofs.Common.{◌≡◌, length}
use Rattle.chain_lines.specs.Chain.{stop_of}
use Rattle.chain_lines.specs.Kept.{last_of, row_kept}
use Rattle.chain_lines.proofs.Thinning.{kept_below}
use Rattle.chain_vertices.proofs.Bits.{Begun}
use Rattle.chain_vertices.proofs.marks.mark.Given as goal

abbrev pub invariant-loop-i : goal.invariant-loop-i
invariant-loop-i l = record {
  begun : Begun (row_kept (stop_of l.lent.bytes.now l.lent.words.now l.lent.reals.now l.s l.c l.chain)) (length l.initial.marks) l.marks l.i;
  last : l.last ≡ last_of (kept_below (stop_of l.lent.bytes.now l.lent.words.now l.lent.reals.now l.s l.c l.chain) l.i);
}
