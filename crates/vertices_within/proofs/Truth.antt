-- Truth values as equations and back. Assumes nothing.
use mathlib.Core.Path.{◌≡◌, refl}
use mathlib.Core.Bool.{Bool, true, false, not}
use lib.Dec.{T}

pub holds : {b : Bool} → b ≡ true → T b
holds e = rw e tt

pub fails : {b : Bool} → b ≡ false → T (not b)
fails e = rw e tt

pub no : (b : Bool) → (T b → ⊥) → b ≡ false
no true h = absurd (h tt)
no false h = refl

pub yes : (b : Bool) → T b → b ≡ true
yes true h = refl
yes false h = absurd h
