-- What is past a limit that was tried, and past infinity. Assumes nothing.
use Prim.Native.Nat.{ℕ}
use mathlib.Core.Path.{◌≡◌}
use mathlib.Core.Bool.{Bool, true, false, ◌&&◌}
use lib.IntN.{pos}
use lib.Dec.{T}
use lib.Ieee.{Float, nan, inf, fin, lt, le}
use Rattle.ids.proofs.ByteOrder.{clash}
use Rattle.roots.specs.Root.{root_of}
use Rattle.sphere_lengths.specs.Length.{way_of}
use Rattle.reach.specs.Reach.{Beyond, is_beyond, low_of, nearby}
use Rattle.reach.proofs.Low.{past}

pub holds : {b : Bool} → b ≡ true → T b
holds e = rw e tt

first : (a b : Bool) → (a && b) ≡ true → T a
first true b e = tt
first false b e = clash (cc)

second : (a b : Bool) → (a && b) ≡ true → T b
second true b e = holds e
second false b e = clash (cc)

pub tried : (most limit a : Float) → T (le (fin false 0 (pos 0)) limit) → T (lt most (low_of (root_of limit))) → is_beyond limit a ≡ true → le (way_of a) most ≡ false
unfolding is_beyond
tried most limit a z h e = past most limit a z h (first (lt limit a) (le a nearby) e) (second (lt limit a) (le a nearby) e)

nothing : (a : Float) → is_beyond (inf false) a ≡ true → ◌≡◌ {A = ℕ} 0 1
unfolding is_beyond lt
nothing nan e = cc
nothing (inf s) e = cc
nothing (fin s m d) e = cc

pub past_infinity : (most : Float) → Beyond most (inf false)
past_infinity most = record { longer = λ a e. clash (nothing a e) }
