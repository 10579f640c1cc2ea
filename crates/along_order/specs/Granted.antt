-- What is granted of a path's lengths and distances. Definitions only.
use Rattle.std.specs.Prelude.{ℕ, ◌≤◌, ◌<◌, List, T, Float}
use Rattle.std.specs.Float.Ieee.{le, fits}
use Rattle.std.specs.Float.{binary32}
use Rattle.std.specs.Float.Ieee.Scale.{finite}
use Rattle.floats.specs.Number.{nought}
use Rattle.lengths.specs.declared.line.Point.{Point}
use Rattle.line_parts.specs.Part.{stretch_length}
use Rattle.line_parts.specs.declared.part.Part.{Part}

-- each length of a part is a number of zero or more
abbrev pub Lengths : List Point → Part → Type 0
Lengths line part = (k : ℕ) → part.first ≤ k → k < part.last → T (le nought (stretch_length line k))

-- a distance is a finite f32, not below zero
pub record Distance (d : Float) : Type 0 where
  pub held : T (fits binary32 d)
  pub bound : T (finite d)
  pub sign : T (le nought d)
