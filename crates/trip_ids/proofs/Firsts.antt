-- The first of several answers that is one. Assumes nothing.
use Rattle.std.specs.Prelude.{Option, Some, None, ℕ}
use mathlib.Core.Path.{◌≡◌, refl}
use Rattle.ids.specs.First.{or_else}

pub or_or : (f g h : Option ℕ) → or_else (or_else f g) h ≡ or_else f (or_else g h)
or_or (Some k) g h = refl
or_or None g h = refl

pub or_nothing : (f : Option ℕ) → or_else f None ≡ f
or_nothing (Some k) = refl
or_nothing None = refl
