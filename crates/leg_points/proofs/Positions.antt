-- The positions of a trip's rows in parts, and the cursor after them. Assumes nothing.
use Rattle.std.specs.Prelude.{Option, Some, None}
use Prim.Native.Nat.{ℕ, zero, suc, ◌+◌, ◌-◌, ◌<◌, ◌≤◌}
use native.Mathlib.Omega.{arith}
use mathlib.Core.Path.{◌≡◌, refl, sym, ap, ◌∙◌}
use mathlib.Core.List.{List, [], ◌∷◌, ◌++◌}
use lib.ListN.{length, take, drop, get_or}
use Rattle.ids.proofs.ByteOrder.{clash}
use Rattle.lengths.specs.declared.line.Point.{Point}
use Rattle.projection.specs.Projection.{at_start, step_of, passed_of, cursor_after, projection_from, projection_of}
use Rattle.projection.specs.declared.cursor.Cursor.{Cursor}
use Rattle.projection.specs.declared.cursor.Passed.{Passed}
use Rattle.projection.proofs.Split.{split_cursor}
use Rattle.trip_vertices.specs.Vertices.{positions_from}

module _ (position : ℕ → Option Point) where
  pub count : (row n : ℕ) → length (positions_from position row n) ≡ n
  unfolding positions_from
  count row zero = refl
  count row (suc n) = ap suc (count (suc row) n)

  -- the first of them
  pub first_part : (row n m : ℕ) → m ≤ n → take m (positions_from position row n) ≡ positions_from position row m
  unfolding positions_from
  first_part row n zero h = refl
  first_part row zero (suc m) h = absurd (omega arith)
  first_part row (suc n) (suc m) h = ap (λ (stops : List (Option Point)). position row ∷ stops) (first_part (suc row) n m (omega arith))

  -- those from one on
  pub part : (row n a m : ℕ) → a + m ≤ n → take m (drop a (positions_from position row n)) ≡ positions_from position (row + a) m
  unfolding positions_from
  part row n zero m h = let z : row + 0 ≡ row = omega arith in rw z (first_part row n m (omega arith))
  part row zero (suc a) m h = absurd (omega arith)
  part row (suc n) (suc a) m h = let z : row + suc a ≡ suc row + a = omega arith in rw z (part (suc row) n a m (omega arith))

  -- one of them
  pub position_at : (row n k : ℕ) → k < n → get_or (positions_from position row n) k None ≡ position (row + k)
  unfolding positions_from
  position_at row zero k h = absurd (omega arith)
  position_at row (suc n) zero h = let z : row + 0 ≡ row = omega arith in rw z
  position_at row (suc n) (suc k) h = let z : row + suc k ≡ suc row + k = omega arith in rw z (position_at (suc row) n k (omega arith))

  pub split : (row a b : ℕ) → positions_from position row (a + b) ≡ positions_from position row a ++ positions_from position (row + a) b
  unfolding positions_from
  split row zero b = let z : row + 0 ≡ row = omega arith in let y : 0 + b ≡ b = omega arith in rw (z, y)
  split row (suc a) b =
      let z : row + suc a ≡ suc row + a = omega arith in
      let y : suc a + b ≡ suc (a + b) = omega arith in
      rw (z, y) (ap (λ (stops : List (Option Point)). position row ∷ stops) (split (suc row) a b))

module _ (line : List Point) where
  -- the vertex of a stop with a position is where the cursor is after it
  pub vertex_after : (c : Cursor) (stops : List (Option Point)) (k : ℕ) (p : Point) → get_or stops k None ≡ Some p →
      get_or (projection_from line c stops) k None ≡ Some (cursor_after line c (take (suc k) stops)).at
  unfolding projection_from cursor_after step_of
  vertex_after c [] k p e = clash (cc)
  vertex_after c (Some q ∷ stops) zero p e = refl
  vertex_after c (None ∷ stops) zero p e = clash (cc)
  vertex_after c (s ∷ stops) (suc k) p e = vertex_after (passed_of line c s).cursor stops k p e

  -- the cursor over rows, one by one
  module _ (position : ℕ → Option Point) (at row n : ℕ) where
    pub record Run (vertex k : ℕ) : Type 0 where
      pub so_far : k ≤ n
      pub left : cursor_after line (record { at = at }) (positions_from position row n) ≡ cursor_after line (record { at = vertex }) (positions_from position (row + k) (n - k))

    pub starts : Run at 0
    starts = let z : row + 0 ≡ row = omega arith in let m : n - 0 ≡ n = omega arith in record { so_far = omega arith; left = rw (z, m) }

    module _ {vertex k : ℕ} (f : Run vertex k) where
      pub goes_on : k < n → {passed : Passed} → passed ≡ passed_of line (record { at = vertex }) (position (row + k)) → Run passed.cursor.at (k + 1)
      unfolding positions_from cursor_after
      goes_on h e =
          let i : n - k ≡ suc (n - (k + 1)) = omega arith in
          let j : row + (k + 1) ≡ suc (row + k) = omega arith in
          record { so_far = omega arith; left = f.left ∙ rw (i, j, e) }

      pub ends : n ≤ k → vertex ≡ (cursor_after line (record { at = at }) (positions_from position row n)).at
      unfolding positions_from cursor_after
      ends h = let i : n - k ≡ 0 = omega arith in sym (ap (λ (c : Cursor). c.at) (f.left ∙ rw i))

-- the vertices of two stops with positions, by two runs of the cursor
module _ (line : List Point) (position : ℕ → Option Point) (row n : ℕ) where
  pub vertex_run : (k : ℕ) → k < n → (p : Point) → position (row + k) ≡ Some p →
      get_or (projection_of line (positions_from position row n)) k None ≡ Some (cursor_after line at_start (positions_from position row (suc k))).at
  vertex_run k h p e =
      vertex_after line at_start (positions_from position row n) k p (position_at position row n k h ∙ e) ∙ rw (first_part position row n (suc k) (omega arith))

  pub second_run : (k m : ℕ) → cursor_after line (cursor_after line at_start (positions_from position row k)) (positions_from position (row + k) m) ≡ cursor_after line at_start (positions_from position row (k + m))
  second_run k m = rw (split position row k m) (sym (split_cursor line at_start (positions_from position row k) (positions_from position (row + k) m)))
