-- The first of two texts that is not empty.
use mathlib.Core.Path.{◌≡◌, refl}
use native.Mathlib.Omega.{arith}
use Prim.Native.Nat.{ℕ}
use mathlib.Core.List.{List, [], ◌∷◌}
use lib.ListN.{length}
use Rattle.parts.specs.Parts.{or_text}

pub or_empty : (s t : List ℕ) → length s ≡ 0 → t ≡ or_text s t
or_empty [] t e = refl
or_empty (b ∷ s) t e = absurd (omega arith)

pub or_some : (s t : List ℕ) → (length s ≡ 0 → ⊥) → s ≡ or_text s t
or_some [] t h = absurd (h refl)
or_some (b ∷ s) t h = refl
