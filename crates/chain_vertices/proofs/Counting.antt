-- How many vertices a chain has, by the stops that are kept. Assumes nothing.
use Rattle.std.specs.Prelude.{Option}
use Prim.Native.Nat.{ℕ, ◌<◌, ◌≤◌}
use mathlib.Core.Path.{◌≡◌, sym}
use mathlib.Core.Logic.{⊎_elim}
use lib.ListN.{length}
use borrow.Author.Tests.{lt-ltb, le-ltb}
use Rattle.lengths.specs.declared.line.Point.{Point}
use Rattle.chain_rows.specs.declared.chain.Chain.{Chain}
use Rattle.chain_lines.specs.Chain.{line_from}
use Rattle.chain_lines.proofs.Thinning.{kept_below}
use Rattle.chain_lines.proofs.Ends.{few_or_more}
use Rattle.chain_lines.proofs.Line.{few_kept, more_kept}
use Rattle.chain_vertices.specs.Vertices.{vertices_of}

-- as many vertices as stops are kept, but two at least
pub vertices_are : (stop : ℕ → Option Point) (chain : Chain) → vertices_of (length (kept_below stop chain.count)) ≡ length (line_from stop chain)
vertices_are stop chain =
    let n = length (kept_below stop chain.count) in
    ⊎_elim (λ (h : n < 2). rw (lt-ltb n 2 h) (sym (few_kept stop chain h))) (λ (h : 2 ≤ n). rw (le-ltb n 2 h) (sym (more_kept stop chain h))) (few_or_more n)
