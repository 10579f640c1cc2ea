-- A text in upper case is as the library writes it. Assumes nothing.
use Prim.Native.Nat.{ℕ}
use native.Mathlib.Omega.{arith}
use mathlib.Core.Path.{◌≡◌, refl}
use mathlib.Core.List.{List, [], ◌∷◌, map}
use Rattle.std.specs.Char.{to_ascii_uppercase}
use Rattle.std.proofs.lemmas.Bool.Decides.{nat_tests}
use Rattle.ids.specs.Bytes.{upper_of}

upper : (b : ℕ) → to_ascii_uppercase b ≡ upper_of b
unfolding upper_of
upper b = grind (arith, nat_tests)

pub uppers : (s : List ℕ) → map to_ascii_uppercase s ≡ map upper_of s
uppers [] = refl
uppers (b ∷ s) = simp (upper b, uppers s)
