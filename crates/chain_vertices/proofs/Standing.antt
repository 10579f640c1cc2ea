-- A pass over a chain stands at its vertices, one after the other. Assumes nothing.
use Rattle.std.specs.Prelude.{Option, Some, None}
use Prim.Native.Nat.{ℕ, suc, ◌-◌, ◌<◌, ◌≤◌}
use native.Mathlib.Omega.{arith}
use mathlib.Core.Path.{◌≡◌, sym, ap, ◌∙◌}
use mathlib.Core.Bool.{Bool, true, false, cond}
use mathlib.Core.List.{List, [], ◌∷◌, map}
use lib.ListN.{length, drop, get_or, get_or-eq_default}
use lib.Seq.{drop-cons}
use Rattle.ids.specs.First.{last}
use Rattle.ids.proofs.Search.{last_found}
use Rattle.lengths.specs.Line.{nowhere}
use Rattle.lengths.specs.declared.line.Point.{Point}
use Rattle.line_parts.specs.Part.{at}
use Rattle.chain_rows.specs.declared.chain.Chain.{Chain}
use Rattle.chain_vertices.specs.declared.vertices.Here.{Here}
use Rattle.chain_lines.specs.Thin.{turned_if}
use Rattle.chain_lines.specs.Chain.{line_from}
use Rattle.chain_lines.specs.Kept.{row_kept}
use Rattle.chain_vertices.specs.Marks.{Marked}
use Rattle.chain_vertices.specs.Vertices.{row_of, marked_ahead, ahead, points_ahead, Stands}
use Rattle.chain_lines.proofs.Thinning.{kept_below, point_at}
use Rattle.chain_vertices.proofs.Direction.{all_ahead, found_ahead, none_ahead, last_same}
use Rattle.chain_lines.proofs.Ends.{first_vertex, last_vertex, inner_vertex, inner_kept}
use Rattle.chain_lines.proofs.Line.{line_is}

-- a row ahead is one of the trip's
row_below : (b : Bool) (n m : ℕ) → m < n → cond b m (n - suc m) < n
row_below true n m h = h
row_below false n m h = omega arith

pub of_trip : (chain : Chain) (m : ℕ) → m < chain.count → row_of chain m < chain.count
of_trip chain m h = row_below chain.reversed chain.count m h

pub next_within : (chain : Chain) (marks : List ℕ) (left m : ℕ) → left ≤ chain.count → last (marked_ahead chain marks) left ≡ Some m → m < chain.count
next_within chain marks left m h e = omega (arith, (last_found (marked_ahead chain marks) left m e).0)

module _ (stop : ℕ → Option Point) (chain : Chain) where
  abbrev line : List Point
  line = line_from stop chain

  -- what is kept, in the chain's direction
  abbrev kept : List Point
  kept = turned_if chain.reversed (kept_below stop chain.count)

  module _ (marks : List ℕ) (right : Marked stop chain.count marks) (left : ℕ) (within : left ≤ chain.count) where
    -- the next mark is the next row that is kept
    next_kept : last (marked_ahead chain marks) left ≡ last (λ (m : ℕ). row_kept stop (row_of chain m)) left
    next_kept = last_same (marked_ahead chain marks) (λ (m : ℕ). row_kept stop (row_of chain m)) left (λ m h. right (row_of chain m) (of_trip chain m (omega arith)))

    pub next_points : (m : ℕ) → last (marked_ahead chain marks) left ≡ Some m → points_ahead stop chain left ≡ point_at stop (row_of chain m) ∷ points_ahead stop chain m
    next_points m e = ap (map (point_at stop)) (found_ahead (row_kept stop) (row_of chain) left m (sym next_kept ∙ e))

    pub no_points : last (marked_ahead chain marks) left ≡ None → points_ahead stop chain left ≡ []
    no_points e = ap (map (point_at stop)) (none_ahead (row_kept stop) (row_of chain) left (sym next_kept ∙ e))

  -- the points after the first
  after_first : {p : Point} {ps : List Point} (l : List Point) → l ≡ p ∷ ps → drop 1 l ≡ ps
  after_first l e = rw e

  module _ (marks : List ℕ) (right : Marked stop chain.count marks) where
    -- at the first vertex
    pub starts : (m : ℕ) → last (marked_ahead chain marks) chain.count ≡ Some m → Stands stop chain (record { left = m; at = chain.from }) 0
    starts m e = record {
      is = rw (line_is stop chain) (sym (first_vertex chain.from chain.to kept));
      within = omega (arith, next_within chain marks chain.count m (omega arith) e);
      rest = λ l. sym (after_first kept (sym (all_ahead stop chain) ∙ next_points marks right chain.count (omega arith) m e));
    }

    pub starts_bare : last (marked_ahead chain marks) chain.count ≡ None → Stands stop chain (record { left = 0; at = chain.from }) 0
    unfolding ahead
    starts_bare e = record {
      is = rw (line_is stop chain) (sym (first_vertex chain.from chain.to kept));
      within = omega arith;
      rest = λ l. let none : kept ≡ [] = sym (all_ahead stop chain) ∙ no_points marks right chain.count (omega arith) e in rw none;
    }

  -- past the last vertex
  pub beyond : (k : ℕ) → length line ≤ k → Stands stop chain (record { left = 0; at = nowhere }) k
  beyond k h = record { is = sym (get_or-eq_default line nowhere h); within = omega arith; rest = λ l. absurd (omega arith) }

  -- at the last
  pub arrives : (k : ℕ) → suc k ≡ length line → Stands stop chain (record { left = 0; at = chain.to }) k
  arrives k e = record {
    is = rw (line_is stop chain) (sym (last_vertex chain.from chain.to kept k (e ∙ ap length (line_is stop chain))));
    within = omega arith;
    rest = λ l. absurd (omega arith);
  }

  -- from one vertex to the next, which is not the last
  module _ (marks : List ℕ) (right : Marked stop chain.count marks) (here : Here) (k : ℕ) (at_k : Stands stop chain here k) (l : suc (suc k) < length line) where
    kept_next : suc k < length kept
    kept_next = inner_kept chain.from chain.to kept (suc k) (omega arith) (omega (arith, ap length (line_is stop chain)))

    rest_is : points_ahead stop chain here.left ≡ get_or kept (suc k) nowhere ∷ drop (suc (suc k)) kept
    rest_is = at_k.rest (omega arith) ∙ drop-cons kept (suc k) nowhere kept_next

    pub never_bare : last (marked_ahead chain marks) here.left ≡ None → ◌≡◌ {A = ℕ} 0 1
    never_bare e = let x = sym (no_points marks right here.left at_k.within e) ∙ rest_is in cc

    pub goes : (m : ℕ) → last (marked_ahead chain marks) here.left ≡ Some m → Stands stop chain (record { left = m; at = point_at stop (row_of chain m) }) (suc k)
    goes m e =
        let x = sym (next_points marks right here.left at_k.within m e) ∙ rest_is in
        let p : point_at stop (row_of chain m) ≡ get_or kept (suc k) nowhere = cc in
        let r : points_ahead stop chain m ≡ drop (suc (suc k)) kept = cc in
        record {
          is = p ∙ sym (rw (line_is stop chain) (inner_vertex chain.from chain.to kept (suc k) (omega arith) (omega (arith, ap length (line_is stop chain)))));
          within = omega (arith, next_within chain marks here.left m at_k.within e);
          rest = λ h. r;
        }
