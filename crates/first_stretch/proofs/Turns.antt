-- What a turn of a loop over a part's stretches does. Assumes nothing.
use Prim.Native.Nat.{ℕ, suc, ◌+◌, ◌-◌, ◌<◌, ◌≤◌}
use native.Mathlib.Omega.{arith}
use mathlib.Core.Path.{◌≡◌, sym, ap, ◌∙◌}
use mathlib.Core.Bool.{Bool, true, false}
use mathlib.Core.List.{List}
use lib.Ieee.{Float, binary64, add}
use Rattle.lengths.specs.declared.line.Point.{Point}
use Rattle.line_parts.specs.Part.{stretch_length, length_from}
use Rattle.line_parts.specs.declared.part.Part.{Part}
use Rattle.line_parts.proofs.Sums.{sum_next}
use Rattle.stretches.specs.declared.spot.Spot.{Spot}
use Rattle.stretches.specs.declared.spot.Spot.TheVariants.{Stretch, NoStretch}
use Rattle.first_stretch.specs.Search.{meets, fraction_of, first_met, stretch_at}

module _ (line : List Point) (part : Part) (tolerance target : Float) where
  abbrev length_to : ℕ → Float
  length_to k = length_from line part.first (k - part.first)

  -- the first stretch that the target meets, from vertex k on
  abbrev pub met_from : ℕ → Spot
  met_from k = first_met (length_from line part.first) part.first tolerance target (k - part.first) (part.last - k)

  pub met_of_all : stretch_at line part tolerance target ≡ met_from part.first
  unfolding stretch_at
  met_of_all = let e : 0 ≡ part.first - part.first = omega arith in ap (λ (j : ℕ). first_met (length_from line part.first) part.first tolerance target j (part.last - part.first)) e

  hit : (k : ℕ) → part.first ≤ k → k < part.last → meets tolerance target (length_to k) (length_to (k + 1)) ≡ true →
      met_from k ≡ Stretch k (fraction_of target (length_to k) (length_to (k + 1)))
  unfolding first_met
  hit k a h t =
      let e : part.last - k ≡ suc (part.last - (k + 1)) = omega arith in
      let f : suc (k - part.first) ≡ k + 1 - part.first = omega arith in
      let g : part.first + (k - part.first) ≡ k = omega arith in
      rw (e, f, g, t)

  miss : (k : ℕ) → part.first ≤ k → k < part.last → meets tolerance target (length_to k) (length_to (k + 1)) ≡ false → met_from k ≡ met_from (k + 1)
  unfolding first_met
  miss k a h t =
      let e : part.last - k ≡ suc (part.last - (k + 1)) = omega arith in
      let f : suc (k - part.first) ≡ k + 1 - part.first = omega arith in
      rw (e, f, t)

  -- none is left
  pub over : (k : ℕ) → part.last ≤ k → met_from k ≡ NoStretch
  unfolding first_met
  over k h = let e : part.last - k ≡ 0 = omega arith in rw e

  module _ (k : ℕ) {sum d : Float} {b : Bool} (a : part.first ≤ k) (h : k < part.last) (e : sum ≡ length_to k) (i : d ≡ stretch_length line k)
      (m : b ≡ meets tolerance target sum (add binary64 sum d)) (w : stretch_at line part tolerance target ≡ met_from k) where
    -- the sum to the next vertex
    pub summed : add binary64 sum d ≡ length_to (k + 1)
    summed = rw (e, i) (sym (sum_next line part.first k a))

    is_met : b ≡ meets tolerance target (length_to k) (length_to (k + 1))
    is_met = m ∙ rw (summed, e)

    -- a stretch that the target meets
    pub found : {t : Float} → b ≡ true → t ≡ fraction_of target sum (add binary64 sum d) → Stretch k t ≡ stretch_at line part tolerance target
    found g t = ap (Stretch k) (t ∙ rw (summed, e)) ∙ sym (w ∙ hit k a h (sym is_met ∙ g))

    -- one that it does not
    pub passed : b ≡ false → stretch_at line part tolerance target ≡ met_from (k + 1)
    passed g = w ∙ miss k a h (sym is_met ∙ g)
