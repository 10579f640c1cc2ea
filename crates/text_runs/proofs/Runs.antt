-- What is found in a text lies in it. Assumes nothing.
use Rattle.std.specs.Prelude.{Option, Some, None}
use Prim.Native.Nat.{ℕ, ◌<◌, ◌≤◌}
use native.Mathlib.Omega.{arith}
use mathlib.Core.Path.{◌≡◌, refl}
use mathlib.Core.Bool.{Bool, true}
use mathlib.Core.List.{List}
use lib.ListN.{length, get_or}
use borrow.Author.Tests.{eqb-true}
use Rattle.ids.specs.First.{first, last, or_at}
use Rattle.ids.proofs.Search.{first_found, last_found}
use Rattle.text_runs.specs.Runs.{byte_is, first_byte, last_byte, fails_at, after, run_of, kept_of}

module _ (s : List ℕ) (b k : ℕ) where
  byte_here : (k < length s) × (byte_is s b k ≡ true) → (k < length s) × (get_or s k 0 ≡ b)
  byte_here h = (h.0, eqb-true (get_or s k 0) b h.1)

  pub first_byte_fits : first_byte s b ≡ Some k → (k < length s) × (get_or s k 0 ≡ b)
  unfolding first_byte
  first_byte_fits e = byte_here (first_found (byte_is s b) (length s) k e)

  pub last_byte_fits : last_byte s b ≡ Some k → (k < length s) × (get_or s k 0 ≡ b)
  unfolding last_byte
  last_byte_fits e = byte_here (last_found (byte_is s b) (length s) k e)

module _ (p : ℕ → Bool) (s : List ℕ) where
  pub run_fits : run_of p s ≤ length s
  unfolding run_of
  run_fits = go (first (fails_at p s) (length s)) refl where
    go : (f : Option ℕ) → first (fails_at p s) (length s) ≡ f → or_at (length s) f ≤ length s
    go (Some k) e = omega (arith, (first_found (fails_at p s) (length s) k e).0)
    go None e = omega arith

  pub kept_fits : kept_of p s ≤ length s
  unfolding kept_of
  kept_fits = go (last (fails_at p s) (length s)) refl where
    go : (f : Option ℕ) → last (fails_at p s) (length s) ≡ f → after f ≤ length s
    go (Some k) e = omega (arith, (last_found (fails_at p s) (length s) k e).0)
    go None e = omega arith
