-- The part of the line between a leg's stops: by where the cursor is after them, and in the line. Assumes nothing.
use Rattle.std.specs.Prelude.{Option, Some, None}
use Prim.Native.Nat.{ℕ, zero, suc, ◌+◌, ◌-◌, ◌<◌, ◌≤◌}
use native.Mathlib.Omega.{arith}
use native.Mathlib.Numerals.{add-one}
use mathlib.Core.Path.{◌≡◌, refl, sym, ap, ◌∙◌}
use mathlib.Core.Bool.{Bool, true, false, cond}
use mathlib.Core.List.{List, [], ◌∷◌}
use borrow.Author.Tests.{ltb-true}
use lib.Dec.{ltb}
use lib.ListN.{length, get_or}
use Rattle.ids.proofs.ByteOrder.{clash}
use Rattle.lengths.specs.declared.line.Point.{Point}
use Rattle.line_parts.specs.Part.{whole_of}
use Rattle.line_parts.specs.declared.part.Part.{Part}
use Rattle.near_vertex.specs.Forward.{forward_shape_index}
use Rattle.projection.specs.Projection.{at_start, step_of, passed_of, cursor_after, projection_from}
use Rattle.projection.specs.declared.cursor.Cursor.{Cursor}
use Rattle.near_vertex.proofs.Range.{first_most}
use Rattle.projection.proofs.Order.{gets_none}
use Rattle.trip_vertices.specs.Vertices.{positions_from}
use Rattle.leg_points.specs.Leg.{vertex_of, leg_part}
use Rattle.leg_parts.specs.Parts.{part_between}
use Rattle.leg_parts.specs.declared.ends.Ends.{Ends}
use Rattle.leg_points.proofs.Positions.{position_at, vertex_run, second_run}

whole_without : (line : List Point) (f : Option ℕ) → part_between line f None ≡ whole_of line
whole_without line (Some i) = refl
whole_without line None = refl

module _ (line : List Point) (position : ℕ → Option Point) (first count : ℕ) (leg : Ends) where
  pub no_rows : count ≡ 0 → whole_of line ≡ leg_part line (positions_from position first count) leg
  unfolding leg_part positions_from projection_from
  no_rows e = rw e

  module _ (o : leg.board ≤ leg.alight) (t : leg.alight < count) where
    pub no_board : position (first + leg.board) ≡ None → whole_of line ≡ leg_part line (positions_from position first count) leg
    unfolding leg_part
    no_board e = rw (gets_none line at_start (positions_from position first count) leg.board (position_at position first count leg.board (omega arith) ∙ e))

    pub no_alight : position (first + leg.alight) ≡ None → whole_of line ≡ leg_part line (positions_from position first count) leg
    unfolding leg_part
    no_alight e =
        rw (gets_none line at_start (positions_from position first count) leg.alight (position_at position first count leg.alight t ∙ e), whole_without line (vertex_of line (positions_from position first count) leg.board))

    module _ {p q : Point} (b : position (first + leg.board) ≡ Some p) (a : position (first + leg.alight) ≡ Some q) {i j : ℕ}
        (f : i ≡ (cursor_after line at_start (positions_from position (first + 0) (leg.board + 1))).at)
        (g : j ≡ (cursor_after line (record { at = i }) (positions_from position (first + (leg.board + 1)) (leg.alight - leg.board))).at) where
      at_board : vertex_of line (positions_from position first count) leg.board ≡ Some i
      at_board = let z : first + 0 ≡ first = omega arith in vertex_run line position first count leg.board (omega arith) p b ∙ rw (f, z, add-one)

      at_alight : vertex_of line (positions_from position first count) leg.alight ≡ Some j
      at_alight =
          let z : first + 0 ≡ first = omega arith in
          let n : leg.board + 1 + (leg.alight - leg.board) ≡ suc leg.alight = omega arith in
          vertex_run line position first count leg.alight t q a ∙ rw (g, f, z, second_run line position first count (leg.board + 1) (leg.alight - leg.board), n)

      pub between : part_between line (Some i) (Some j) ≡ leg_part line (positions_from position first count) leg
      unfolding leg_part
      between = rw (at_board, at_alight)

-- a part of a line that has a vertex
pub record Within (line : List Point) (part : Part) : Type 0 where
  pub ordered : part.first ≤ part.last
  pub ends : part.last < length line

module _ (line : List Point) (some : 0 < length line) where
  in_line : (c : Cursor) (stops : List (Option Point)) (k v : ℕ) → get_or (projection_from line c stops) k None ≡ Some v → v < length line
  unfolding projection_from step_of
  in_line c [] k v e = clash (cc)
  in_line c (Some p ∷ stops) zero v e = let q : forward_shape_index line c.at p ≡ v = cc in omega (arith, first_most line c.at p)
  in_line c (None ∷ stops) zero v e = clash (cc)
  in_line c (s ∷ stops) (suc k) v e = in_line (passed_of line c s).cursor stops k v e

  whole_within : Within line (whole_of line)
  whole_within = record { ordered = omega arith; ends = omega arith }

  between_within : (f g : Option ℕ) → ((v : ℕ) → g ≡ Some v → v < length line) → Within line (part_between line f g)
  between_within (Some i) (Some j) h = go (ltb i j) (ltb-true i j) where
    go : (b : Bool) → (b ≡ true → i < j) → Within line (cond b (record { first = i; last = j }) (whole_of line))
    go true l = record { ordered = omega (arith, l refl); ends = h j refl }
    go false l = whole_within
  between_within (Some i) None h = whole_within
  between_within None g h = whole_within

  pub part_within : (stops : List (Option Point)) (leg : Ends) → Within line (leg_part line stops leg)
  unfolding leg_part
  part_within stops leg = between_within (vertex_of line stops leg.board) (vertex_of line stops leg.alight) (λ v e. in_line at_start stops leg.alight v e)
