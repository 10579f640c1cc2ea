-- A trip split after any stop, with the cursor handed on, projects as the whole; and a stop without a position is as if it were not there. Assumes nothing.
use Rattle.std.specs.Prelude.{Option}
use mathlib.Core.Path.{◌≡◌, refl, ap}
use mathlib.Core.List.{List, [], ◌∷◌, ◌++◌, foldl-append}
use Rattle.lengths.specs.declared.line.Point.{Point}
use Rattle.projection.specs.Projection.{passed_of, cursor_after, projection_from}
use Rattle.projection.specs.declared.cursor.Cursor.{Cursor}

module _ (line : List Point) where
  -- the vertices of both parts, one after the other
  pub split_projection : (c : Cursor) (before after : List (Option Point)) →
      projection_from line c (before ++ after) ≡ projection_from line c before ++ projection_from line (cursor_after line c before) after
  unfolding projection_from cursor_after
  split_projection c [] after = refl
  split_projection c (s ∷ before) after = ap (λ (vs : _). (passed_of line c s).vertex ∷ vs) (split_projection (passed_of line c s).cursor before after)

  -- and the cursor after both
  pub split_cursor : (c : Cursor) (before after : List (Option Point)) → cursor_after line c (before ++ after) ≡ cursor_after line (cursor_after line c before) after
  unfolding cursor_after
  split_cursor c before after = foldl-append _ c before after
