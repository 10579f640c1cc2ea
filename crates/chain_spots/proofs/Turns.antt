-- What a turn of each pass along a chain does, and what the passes say of its length, its spots and positions. Assumes nothing.
use Rattle.std.specs.Prelude.{Option}
use Prim.Native.Nat.{ℕ, suc, ◌+◌, ◌-◌, ◌<◌, ◌≤◌}
use mathlib.Core.Path.{◌≡◌, sym, ap, ◌∙◌}
use mathlib.Core.Bool.{Bool, true, false}
use mathlib.Core.List.{List, [], ◌∷◌}
use lib.Ieee.{Float, binary64, add, le}
use borrow.Author.Tests.{lt-ltb, le-ltb}
use Rattle.floats.specs.Number.{nought, one}
use Rattle.lengths.specs.Line.{metres_of}
use Rattle.lengths.specs.declared.line.Point.{Point}
use Rattle.line_parts.specs.Part.{at, stretch_length, length_from}
use Rattle.first_stretch.specs.Search.{meets, fraction_of, first_met, stretch_at}
use Rattle.stretches.specs.Drawing.{draw_of, first_of, held_at}
use Rattle.line_parts.specs.declared.part.Part.{Part}
use Rattle.stretches.specs.declared.spot.Spot.TheVariants.{First, Stretch, NoStretch}
use Rattle.routes.specs.Route.{inside_of, along_of}
use Rattle.routes.specs.declared.route.Route.{Route}
use Rattle.chain_rows.specs.declared.chain.Chain.{Chain}
use Rattle.chain_vertices.specs.declared.vertices.Here.{Here}
use Rattle.chain_lines.specs.Chain.{line_from}
use Rattle.chain_stretches.specs.Two.{two}
use Rattle.chain_vertices.specs.Vertices.{Stands}

module _ (stop : ℕ → Option Point) (chain : Chain) where
  -- from a vertex to the next
  pub stretch_is : (here there : Here) (k : ℕ) (d : Float) → Stands stop chain here k → Stands stop chain there (suc k) → d ≡ metres_of here.at there.at →
      d ≡ stretch_length (line_from stop chain) k
  unfolding stretch_length
  stretch_is here there k d h t e = e ∙ ap (λ (p : Point). metres_of p there.at) h.is ∙ ap (metres_of (at (line_from stop chain) k)) t.is

-- where a route is at a fraction: at its start
module _ (line : List Point) (route : Route) (f : Float) where
  pub alone : route.part.last ≤ route.part.first → First ≡ along_of line route f
  unfolding along_of
  alone h = rw (le-ltb _ _ h)

  pub at_start : route.part.first < route.part.last → le f nought ≡ true → First ≡ along_of line route f
  unfolding along_of
  at_start h a = rw (lt-ltb _ _ h, a)

-- the first vertex of a part, drawn on the line of it and the next, and alone
module _ (line : List Point) (part : Part) where
  pub first_two : part.first < part.last → draw_of (at line part.first ∷ at line (suc part.first) ∷ []) two First ≡ first_of line part
  unfolding first_of
  first_two h = rw (lt-ltb _ _ h)

  pub first_alone : part.last ≤ part.first → held_at (at line part.first) nought ≡ first_of line part
  unfolding first_of
  first_alone h = rw (le-ltb _ _ h)
