-- The length along a line grows from vertex to vertex by the stretch between them, and the Rust's list has it at each vertex. Assumes nothing.
use Prim.Native.Nat.{ℕ, zero, suc, ◌+◌, ◌-◌, ◌<◌, ◌≤◌, min}
use native.Mathlib.Omega.{arith}
use native.Mathlib.Numerals.{add-one}
use mathlib.Core.Path.{◌≡◌, refl, sym, ap, ◌∙◌}
use mathlib.Core.Logic.{⊎_elim}
use Rattle.std.proofs.lemmas.Bool.{cases_lt}
use mathlib.Core.List.{List, [], ◌∷◌}
use lib.ListN.{length, get_or, take}
use lib.Seq.{take_all}
use lib.Ieee.{Float, nan, binary64, add}
use Rattle.floats.specs.Number.{nought}
use Rattle.lengths.specs.Line.{metres_of, nowhere}
use Rattle.running_lengths.specs.Length.{onward, length_of, length_to, sums_of, lengths_of}
use Rattle.lengths.specs.declared.line.Point.{Point}

-- to the first vertex it is nought
pub first_length : (line : List Point) → length_to line 0 ≡ nought
unfolding length_to length_of onward
first_length [] = refl
first_length (a ∷ line) = refl

onward_next : (sum : Float) (a : Point) (line : List Point) (k : ℕ) → k < length line →
    onward sum a (take (suc k) line) ≡ add binary64 (onward sum a (take k line)) (metres_of (get_or (a ∷ line) k nowhere) (get_or line k nowhere))
unfolding onward
onward_next sum a [] k h = absurd (omega arith)
onward_next sum a (b ∷ line) zero h = refl
onward_next sum a (b ∷ line) (suc k) h = onward_next (add binary64 sum (metres_of a b)) b line k (omega arith)

-- from one vertex to the next it grows by the stretch between them
pub next_length : (line : List Point) (k : ℕ) → k + 1 < length line →
    length_to line (k + 1) ≡ add binary64 (length_to line k) (metres_of (get_or line k nowhere) (get_or line (k + 1) nowhere))
unfolding length_to length_of
next_length [] k h = absurd (omega arith)
next_length (a ∷ line) k h = rw add-one (onward_next nought a line k (omega arith))

-- past the last it grows no more
pub whole_length : (line : List Point) (k j : ℕ) → length line ≤ k + 1 → k ≤ j → length_to line k ≡ length_to line j
unfolding length_to
whole_length line k j h l = ap length_of (take_all (suc k) line (omega arith) ∙ sym (take_all (suc j) line (omega arith)))

-- to vertex k, or to the last before it
pub last_length : (line : List Point) (k i : ℕ) → i ≡ min k (length line - 1) → length_to line i ≡ length_to line k
last_length line k i e =
    ⊎_elim (λ (h : k < length line). let q : i ≡ k = omega arith in ap (length_to line) q) (λ (h : length line ≤ k). whole_length line i k (omega arith) (omega arith)) (cases_lt k (length line))

sums_at : (sum : Float) (a : Point) (line : List Point) (k : ℕ) → k ≤ length line → get_or (sums_of sum a line) k nan ≡ onward sum a (take k line)
unfolding sums_of onward
sums_at sum a [] zero h = refl
sums_at sum a [] (suc k) h = absurd (omega arith)
sums_at sum a (b ∷ line) zero h = refl
sums_at sum a (b ∷ line) (suc k) h = sums_at (add binary64 sum (metres_of a b)) b line k (omega arith)

-- the Rust's list has the length to each vertex
pub listed : (line : List Point) (k : ℕ) → k < length line → get_or (lengths_of line) k nan ≡ length_to line k
unfolding lengths_of length_to length_of
listed [] k h = absurd (omega arith)
listed (a ∷ line) k h = sums_at nought a line k (omega arith)

sums_count : (sum : Float) (a : Point) (line : List Point) → length (sums_of sum a line) ≡ suc (length line)
unfolding sums_of
sums_count sum a [] = refl
sums_count sum a (b ∷ line) = ap suc (sums_count (add binary64 sum (metres_of a b)) b line)

-- and no other
pub listed_count : (line : List Point) → length (lengths_of line) ≡ length line
unfolding lengths_of
listed_count [] = refl
listed_count (a ∷ line) = sums_count nought a line
