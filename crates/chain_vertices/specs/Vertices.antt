-- What a pass over a chain's vertices carries. Definitions only.
use Rattle.std.specs.Prelude.{ℕ, zero, suc, ◌-◌, ◌<◌, ◌≤◌, Bool, cond, List, [], ◌∷◌, map, ◌≡◌, length, ltb, drop, Option}
use Rattle.lengths.specs.Line.{nowhere}
use Rattle.lengths.specs.declared.line.Point.{Point}
use Rattle.line_parts.specs.Part.{at}
use Rattle.chain_rows.specs.declared.chain.Chain.{Chain}
use Rattle.chain_vertices.specs.declared.vertices.Here.{Here}
use Rattle.chain_lines.specs.Thin.{thinned, turned_if}
use Rattle.chain_lines.specs.Stops.{point_or, points_below}
use Rattle.chain_lines.specs.Chain.{line_from}
use Rattle.chain_lines.specs.Kept.{row_kept}
use Rattle.chain_vertices.specs.Marks.{is_marked}

-- how many vertices a chain has, where so many stops are kept
abbrev pub vertices_of : ℕ → ℕ
vertices_of kept = cond (ltb kept 2) 2 kept

-- past the last vertex
abbrev pub past_all : Here
past_all = record { left = 0; at = nowhere }

-- the row that has m rows ahead of it, in the chain's direction
abbrev pub row_of : Chain → ℕ → ℕ
row_of chain m = cond chain.reversed m (chain.count - suc m)

-- it is marked
abbrev pub marked_ahead : Chain → List ℕ → ℕ → Bool
marked_ahead chain marks m = is_marked marks (row_of chain m)

-- the kept ones of the last m rows, in the chain's direction
unfoldable pub ahead : (ℕ → Bool) → (ℕ → ℕ) → ℕ → List ℕ
ahead kept row zero = []
ahead kept row (suc m) = cond (kept (row m)) (row m ∷ ahead kept row m) (ahead kept row m)

-- their points
abbrev pub points_ahead : (ℕ → Option Point) → Chain → ℕ → List Point
points_ahead stop chain m = map (λ (i : ℕ). point_or (stop i)) (ahead (row_kept stop) (row_of chain) m)

-- a pass stands at vertex k: it has its point, and what is kept of the rows ahead are the stops after it
pub record Stands (stop : ℕ → Option Point) (chain : Chain) (here : Here) (k : ℕ) : Type 0 where
  pub is : here.at ≡ at (line_from stop chain) k
  pub within : here.left ≤ chain.count
  pub rest : suc k < length (line_from stop chain) → points_ahead stop chain here.left ≡ drop (suc k) (turned_if chain.reversed (thinned (points_below stop chain.count)))
