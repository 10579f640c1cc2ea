-- A chain's line: from end to end of the leg, with what is kept between them. Assumes nothing.
use Rattle.std.specs.Prelude.{Option}
use Prim.Native.Nat.{ℕ, suc, ◌+◌, ◌-◌, ◌<◌, ◌≤◌}
use native.Mathlib.Omega.{arith}
use mathlib.Core.Path.{◌≡◌, refl, ap, ◌∙◌}
use mathlib.Core.List.{List}
use lib.ListN.{length}
use Rattle.lengths.specs.declared.line.Point.{Point}
use Rattle.line_parts.specs.Part.{at}
use Rattle.chain_rows.specs.declared.chain.Chain.{Chain}
use Rattle.chain_lines.specs.Thin.{turned_if, chain_from, ended}
use Rattle.chain_lines.specs.Chain.{line_from}
use Rattle.chain_lines.proofs.Thinning.{kept_below, at_most}
use Rattle.chain_lines.proofs.Ends.{two_at_least, two_more_at_most, few_length, more_length, first_vertex, last_vertex, turned_length}

module _ (stop : ℕ → Option Point) (chain : Chain) where
  abbrev line : List Point
  line = line_from stop chain

  -- what is kept, in the chain's direction
  abbrev kept : List Point
  kept = turned_if chain.reversed (kept_below stop chain.count)

  pub line_is : line ≡ ended chain.from chain.to kept
  unfolding line_from chain_from
  line_is = refl

  kept_count : length kept ≡ length (kept_below stop chain.count)
  kept_count = turned_length chain.reversed (kept_below stop chain.count)

  -- a chain has at least two points, and at most two more than its trip has rows
  pub two_or_more : 2 ≤ length line
  two_or_more = rw line_is (two_at_least chain.from chain.to kept)

  pub rows_and_two : length line ≤ chain.count + 2
  rows_and_two = rw line_is (omega (arith, two_more_at_most chain.from chain.to kept, kept_count, at_most stop chain.count))

  -- it starts at one end of the leg, and ends at the other
  pub starts_at : at line 0 ≡ chain.from
  starts_at = rw line_is (first_vertex chain.from chain.to kept)

  pub ends_at : at line (length line - 1) ≡ chain.to
  ends_at =
      let e : suc (length line - 1) ≡ length (ended chain.from chain.to kept) = omega (arith, two_or_more, ap length line_is) in
      ap (λ (l : List Point). at l (length line - 1)) line_is ∙ last_vertex chain.from chain.to kept (length line - 1) e

  -- as many as are kept, but two at least
  pub few_kept : length (kept_below stop chain.count) < 2 → length line ≡ 2
  few_kept h = rw line_is (few_length chain.from chain.to kept (omega (arith, kept_count)))

  pub more_kept : 2 ≤ length (kept_below stop chain.count) → length line ≡ length (kept_below stop chain.count)
  more_kept h = rw line_is (more_length chain.from chain.to kept (omega (arith, kept_count)) ∙ kept_count)
